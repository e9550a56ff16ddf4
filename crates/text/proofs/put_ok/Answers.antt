-- Three texts, one after the other. Assumes nothing.
use native.Mathlib.Omega.{arith}
use Rattle.text.proofs.Putting.{ok_text_lem}
use Rattle.text.proofs.put_ok.Goals as goal

pub returns : goal.returns
returns c = record { puts_at = ok_text_lem _ c.put-p.ensures c.put_values-q.ensures.puts_at c.put.ensures; upper_bound = omega (arith, c.put-p.ensures, c.put_values-q.ensures.upper_bound, c.put.ensures) }
