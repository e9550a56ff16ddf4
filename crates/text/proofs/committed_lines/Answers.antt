-- Counted first, then written where they fit. Assumes nothing.
use native.Mathlib.Omega.{arith}
use Rattle.text.proofs.Putting.{puts_short, puts_fit}
use Rattle.text.specs.Committed.{many, few}
use Rattle.text.proofs.committed_lines.Goals as goal

pub returns-then-flags-gt-MAX_WIRES : goal.returns-then-flags-gt-MAX_WIRES
returns-then-flags-gt-MAX_WIRES c = record { lines = many c.if-flags-gt-MAX_WIRES.true; enough = λ h. absurd (omega (arith, c.if-flags-gt-MAX_WIRES.true)) }

pub returns-then-out-n : goal.returns-then-out-n
returns-then-out-n c = record { lines = few c.if-flags-gt-MAX_WIRES.false (puts_short c.put_lines-n.ensures.puts_at _ c.if-out-n.true); enough = λ h. λ i. absurd (omega (arith, c.if-out-n.true, c.put_lines-n.ensures.upper_bound)) }

pub returns : goal.returns
returns c = record { lines = few c.if-flags-gt-MAX_WIRES.false (puts_fit c.put_lines-n.ensures.puts_at c.if-out-n.false c.put_lines.ensures.puts_at); enough = λ h i. tt }
