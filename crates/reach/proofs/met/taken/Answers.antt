-- Each branch is what the definition says. Assumes nothing.
use borrow.Author.Tests.{eq-eqb, ne_eqb}
use Rattle.reach.proofs.met.taken.Goals as goal

pub returns-then-decision-eq0 : goal.returns-then-decision-eq0
returns-then-decision-eq0 c = rw (eq-eqb c.args.decision 0 c.if-decision-eq0.true)

pub returns : goal.returns
returns c = rw (ne_eqb c.args.decision 0 c.if-decision-eq0.false)
