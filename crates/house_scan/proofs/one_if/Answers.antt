-- By cases of the test. Assumes nothing.
use native.Mathlib.Omega.{arith}
use borrow.Author.Tests.{eq-eqb, ne_eqb}
use Rattle.house_scan.proofs.one_if.Goals as goal

pub returns-then-tag-kind : goal.returns-then-tag-kind
returns-then-tag-kind c = (simp (eq-eqb _ _ c.if-tag-kind.true), omega arith)

pub returns-else-tag-kind : goal.returns-else-tag-kind
returns-else-tag-kind c = (simp (ne_eqb _ _ c.if-tag-kind.false), omega arith)
