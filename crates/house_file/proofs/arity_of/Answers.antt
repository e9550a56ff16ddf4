-- Each return is the number of operands of the tags that reach it. Assumes nothing.
use native.Mathlib.Omega.{arith}
use borrow.Author.Tests.{eq-eqb, ne_eqb}
use Rattle.house_file.specs.Format.{arity}
use Rattle.house_file.proofs.arity_of.Goals as goal

pub returns-then-tag-eq2 : goal.returns-then-tag-eq2
unfolding arity
returns-then-tag-eq2 c = (simp (eq-eqb _ _ c.if-tag-eq2.true), omega arith)

pub returns-then-tag-eq3 : goal.returns-then-tag-eq3
unfolding arity
returns-then-tag-eq3 c = (simp (ne_eqb _ _ c.if-tag-eq2.false, eq-eqb _ _ c.if-tag-eq3.true), omega arith)

pub returns-then-tag-eq4 : goal.returns-then-tag-eq4
unfolding arity
returns-then-tag-eq4 c = (simp (ne_eqb _ _ c.if-tag-eq2.false, ne_eqb _ _ c.if-tag-eq3.false, eq-eqb _ _ c.if-tag-eq4.true), omega arith)

pub returns : goal.returns
unfolding arity
returns c = (simp (ne_eqb _ _ c.if-tag-eq2.false, ne_eqb _ _ c.if-tag-eq3.false, ne_eqb _ _ c.if-tag-eq4.false), omega arith)
