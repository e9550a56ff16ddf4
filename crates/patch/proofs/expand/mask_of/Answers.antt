-- What stands in the store; past the end 0. Assumes nothing.
use lib.ListN.{get_or-eq_default}
use Prim.Native.Nat.{ℕ}
use mathlib.Core.Path.{sym}
use Rattle.patch.proofs.expand.mask_of.Goals as goal

pub returns-then-alive-i : goal.returns-then-alive-i
returns-then-alive-i c = sym (get_or-eq_default {A = ℕ} c.args.alive.now 0 c.if-alive-i.true)
