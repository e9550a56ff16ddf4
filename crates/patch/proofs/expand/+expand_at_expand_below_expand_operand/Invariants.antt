use Rattle.operand.specs.Numbers.{term_of}
use Rattle.patch.specs.Spelling.{Source, spelt_to, inner_of, outer_of, spell_under, spell, terms_in, reading, Opened}
use lib.Bits.{bit_and}
use lib.ListN.{length, get_or, drop}
use mathlib.Core.List.{map}
use mathlib.Core.Path.{◌≡◌}
use Prim.Native.Nat.{◌+◌, ◌-◌, ◌*◌, ◌≤◌, ◌<◌}
use Rattle.patch.proofs.expand.+expand_at_expand_below_expand_operand.Given as goal

abbrev pub decreases-expand_at : goal.decreases-expand_at
decreases-expand_at l = 3 * l.below

abbrev pub decreases-expand_below : goal.decreases-expand_below
decreases-expand_below l = 3 * l.below + 1

abbrev pub decreases-expand_operand : goal.decreases-expand_operand
decreases-expand_operand l = 3 * l.below + 2

abbrev pub invariant-expand_operand-loop-k : goal.invariant-expand_operand-loop-k
invariant-expand_operand-loop-k l =
    (l.k ≤ length l.es) × (length l.out ≡ length l.initial.out) × (l.k < length l.es → bit_and (get_or l.ms l.k 0) l.mask ≡ 0 → ⊥) × (l.cur ≤ length l.initial.out + 1)
    × ((q : Source) → Opened (reading q l.alive) l.i l.below → spell_under (spell (reading q l.alive) l.below) (inner_of l.over) (outer_of l.over) (map term_of (drop l.k (terms_in q l.i))) (spelt_to l.out l.cur) ≡ spell_under (spell (reading q l.alive) l.below) (inner_of l.over) (outer_of l.over) (map term_of (terms_in q l.i)) (spelt_to l.initial.out l.initial.cur))

abbrev pub decreases-expand_operand-loop-k : goal.decreases-expand_operand-loop-k
decreases-expand_operand-loop-k l = length l.es - l.k
