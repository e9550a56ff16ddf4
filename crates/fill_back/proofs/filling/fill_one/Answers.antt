-- A committed wire keeps its word, and another one has the value of its right side. Assumes nothing.
use Rattle.fill_back.specs.Steps.{held_in}
use Rattle.fill_back.proofs.Storing.{step_committed, step_open}
use native.Mathlib.Omega.{arith}
use Rattle.fill_back.proofs.filling.fill_one.Goals as goal

pub returns-then-flags-w-ne0 : goal.returns-then-flags-w-ne0
returns-then-flags-w-ne0 c = step_committed (held_in c.args.system.now c.args.flags.now) c.args.d.0 c.args.assignment.now (λ e. omega (arith, e, c.if-flags-w-ne0.true))

pub returns : goal.returns
returns c = step_open (held_in c.args.system.now c.args.flags.now) c.args.d.0 c.args.assignment.now _ (omega arith) c.operand_value.ensures
