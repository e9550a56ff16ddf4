-- Counted first, then written where it fits. Assumes nothing.
use native.Mathlib.Omega.{arith}
use Rattle.text.proofs.Putting.{puts_short, puts_fit}
use Rattle.text.proofs.refused_line.Goals as goal

pub returns-then-out-n : goal.returns-then-out-n
returns-then-out-n c = record { puts = puts_short c.put_refused-n.ensures.puts_at _ c.if-out-n.true; enough = λ i. absurd (omega (arith, c.if-out-n.true, c.put_refused-n.ensures.upper_bound)) }

pub returns : goal.returns
returns c = record { puts = puts_fit c.put_refused-n.ensures.puts_at c.if-out-n.false c.put_refused.ensures.puts_at; enough = λ h. tt }
