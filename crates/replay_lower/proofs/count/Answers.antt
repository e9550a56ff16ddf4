-- By whether it is the expected one. Assumes nothing.
use Rattle.std.proofs.Common.{eq-eqb, ne_eqb}
use Rattle.replay_lower.proofs.count.Goals as goal

pub returns-then-answer-expected : goal.returns-then-answer-expected
returns-then-answer-expected c = rw (eq-eqb _ _ c.if-answer-expected.true) cc

pub returns : goal.returns
returns c = rw (ne_eqb _ _ c.if-answer-expected.false) cc
