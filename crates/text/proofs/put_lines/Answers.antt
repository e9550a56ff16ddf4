-- One wire after the other. Assumes nothing.
use Rattle.text.proofs.Putting.{lines_first, lines_step, lines_all}
use native.Mathlib.Omega.{arith}
use Rattle.text.proofs.put_lines.Goals as goal

pub loop-i-init : goal.loop-i-init
loop-i-init c = (lines_first (omega arith), omega arith)

pub put_flag-p-requires : goal.put_flag-p-requires
put_flag-p-requires c = omega (arith, c.loop-i.invariant.1, c.requires)

pub loop-i-preserved : goal.loop-i-preserved
loop-i-preserved c = (lines_step _ _ (omega arith) c.loop-i.invariant.0 c.put_flag-p.ensures.puts_at, omega (arith, c.loop-i.invariant.1, c.put_flag-p.ensures.upper_bound))

pub returns : goal.returns
returns c = record { puts_at = lines_all _ _ (omega arith) c.loop-i.invariant.0; upper_bound = omega (arith, c.loop-i.invariant.1, c.requires) }
