-- A space, then the digits. Assumes nothing.
use Rattle.text.proofs.Putting.{puts_first}
use native.Mathlib.Omega.{arith}
use Rattle.text.proofs.put_value.Goals as goal

pub returns : goal.returns
returns c = record { puts_at = puts_first 32 _ _ c.put.ensures c.put_decimal.ensures.puts_at; upper_bound = omega (arith, c.put_decimal.ensures.upper_bound) }
