-- Five texts, one after the other. Assumes nothing.
use native.Mathlib.Omega.{arith}
use Rattle.text.proofs.Putting.{refused_at_text_lem}
use Rattle.text.proofs.put_refused_at.Goals as goal

pub returns : goal.returns
returns c = record { puts_at = refused_at_text_lem _ _ c.put-p.ensures c.put_decimal-q.ensures.puts_at c.put-s.ensures c.put_decimal-t.ensures.puts_at c.put.ensures; upper_bound = omega (arith, c.put-p.ensures, c.put_decimal-q.ensures.upper_bound, c.put-s.ensures, c.put_decimal-t.ensures.upper_bound, c.put.ensures) }
