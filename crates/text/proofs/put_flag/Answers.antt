-- A line, or nothing. Assumes nothing.
use Rattle.text.proofs.Putting.{flag_none, flag_some}
use native.Mathlib.Omega.{arith}
use Rattle.text.proofs.put_flag.Goals as goal

pub returns-then-flag-eq0 : goal.returns-then-flag-eq0
returns-then-flag-eq0 c = record { puts_at = flag_none _ _ c.if-flag-eq0.true; upper_bound = omega arith }

pub returns : goal.returns
returns c = record { puts_at = flag_some _ _ c.if-flag-eq0.false c.put_decimal-p.ensures.puts_at c.put.ensures; upper_bound = omega (arith, c.put_decimal-p.ensures, c.put.ensures) }
