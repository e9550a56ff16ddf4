use Rattle.reach.specs.Steps.{mask_at}
use Rattle.reach.specs.Alive.{or_all, through}
use Rattle.operand.specs.Numbers.{term_of}
use Rattle.std.specs.Int.Bits.{bit_or}
use lib.ListN.{drop}
use Prim.Native.Nat.{ℕ}
use mathlib.Core.Path.{◌≡◌}
use Rattle.reach.proofs.written.operand_mask.Given as goal

abbrev pub invariant-loop-t : goal.invariant-loop-t
invariant-loop-t l = bit_or l.all (or_all (λ (t : ℕ). through (mask_at l.masks) (term_of t)) (drop l.t-index l.ts)) ≡ or_all (λ (t : ℕ). through (mask_at l.masks) (term_of t)) l.ts
