-- The destination of a Linear has two bytes; other payloads begin with their operands. Assumes nothing.
use native.Mathlib.Omega.{arith}
use borrow.Author.Tests.{eq-eqb, ne_eqb}
use Rattle.house_file.specs.Decoding.{operands_start}
use Rattle.house_file.proofs.start_of.Goals as goal

pub returns-then-tag-eq-LINEAR : goal.returns-then-tag-eq-LINEAR
unfolding operands_start
returns-then-tag-eq-LINEAR c = (simp (eq-eqb _ _ c.if-tag-eq-LINEAR.true), omega arith)

pub returns-else-tag-eq-LINEAR : goal.returns-else-tag-eq-LINEAR
unfolding operands_start
returns-else-tag-eq-LINEAR c = (simp (ne_eqb _ _ c.if-tag-eq-LINEAR.false), omega arith)
