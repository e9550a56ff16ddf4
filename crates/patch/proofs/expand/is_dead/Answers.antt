-- The test of the definition's mask. Assumes nothing.
use lib.Bits.{bit_and}
use lib.Dec.{eqb}
use Prim.Native.Nat.{ℕ}
use mathlib.Core.Path.{ap}
use Rattle.patch.proofs.expand.is_dead.Goals as goal

pub returns-clause-dead : goal.returns-clause-dead
returns-clause-dead c = ap (λ (x : ℕ). eqb (bit_and x c.args.mask) 0) c.mask_of.ensures
