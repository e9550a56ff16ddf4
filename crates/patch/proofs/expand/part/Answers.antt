-- The part of the store that is as long as it is asked to be. Assumes nothing.
use native.Mathlib.Omega.{arith}
use Prim.Native.Nat.{◌+◌, ◌-◌}
use mathlib.Core.Path.{◌≡◌}
use Rattle.patch.proofs.expand.part.Goals as goal

pub returns : goal.returns
returns c = let e : c.args.at + c.args.n - c.args.at ≡ c.args.n = omega arith in rw e
