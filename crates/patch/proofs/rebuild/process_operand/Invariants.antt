use Prim.Native.Nat.{◌≤◌}
use mathlib.Core.Path.{◌≡◌}
use mathlib.Core.List.{map}
use lib.ListN.{length, drop}
use Rattle.operand.specs.Numbers.{term_of}
use Rattle.patch.specs.Steps.{write_terms}
use Rattle.patch.specs.Spelling.{source_of, spelt, spell}
use Rattle.patch.proofs.rebuild.process_operand.Given as goal

abbrev pub invariant-loop-t : goal.invariant-loop-t
invariant-loop-t l = (l.t-index ≤ length l.ts) × (length l.out ≡ length l.initial.out) × (l.cur.count ≤ length l.initial.out) × (write_terms (spell (source_of l.source) l.below) (map term_of (drop l.t-index l.ts)) (spelt l.out l.cur) ≡ write_terms (spell (source_of l.source) l.below) (map term_of l.ts) (spelt l.initial.out l.initial.cur))
