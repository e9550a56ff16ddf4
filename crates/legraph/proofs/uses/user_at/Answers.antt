-- The two ways of the definition. Assumes nothing.
use native.Mathlib.Omega.{arith}
use Rattle.legraph.proofs.uses.user_at.Goals as goal

pub returns-then-linear : goal.returns-then-linear
returns-then-linear c = rw c.if-linear.true (omega arith)

pub returns-else-linear : goal.returns-else-linear
returns-else-linear c = rw c.if-linear.false
