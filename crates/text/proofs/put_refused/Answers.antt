-- Three texts, one after the other. Assumes nothing.
use native.Mathlib.Omega.{arith}
use Rattle.text.proofs.Putting.{refused_text_lem}
use Rattle.text.proofs.put_refused.Goals as goal

pub put-requires : goal.put-requires
put-requires c = (omega arith, omega (arith, c.put_decimal-q.ensures.upper_bound, c.put-p.ensures))

pub returns : goal.returns
returns c = record { puts_at = refused_text_lem _ c.put-p.ensures c.put_decimal-q.ensures.puts_at c.put.ensures; upper_bound = omega (arith, c.put-p.ensures, c.put_decimal-q.ensures.upper_bound, c.put.ensures) }
