-- One value after the other. Assumes nothing.
use Rattle.text.proofs.Putting.{values_first, values_step, values_all}
use native.Mathlib.Omega.{arith}
use Rattle.text.proofs.put_values.Goals as goal

pub loop-v-init : goal.loop-v-init
loop-v-init c = (values_first (omega arith), omega arith)

pub put_value-p-requires : goal.put_value-p-requires
put_value-p-requires c = omega (arith, c.loop-v.invariant.1, c.requires)

pub loop-v-preserved : goal.loop-v-preserved
loop-v-preserved c = (values_step _ _ c.loop-v-test.true c.loop-v.invariant.0 c.put_value-p.ensures.puts_at, omega (arith, c.loop-v.invariant.1, c.put_value-p.ensures.upper_bound))

pub returns : goal.returns
returns c = record { puts_at = values_all _ _ c.loop-v-test.false c.loop-v.invariant.0; upper_bound = omega (arith, c.loop-v.invariant.1, c.requires) }
