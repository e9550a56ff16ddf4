-- The two ways of the definition. Assumes nothing.
use Rattle.legraph.specs.Walked.{walked}
use Rattle.legraph.proofs.Walks.{closed_circle, closed-done}
use Rattle.legraph.proofs.post_order.close.Goals as goal

pub returns-then-c : goal.returns-then-c
returns-then-c c = closed_circle (walked c.args.marks.now c.args.order.now c.args.c) c.args.d.0 c.if-c.true

pub returns : goal.returns
returns c = cc (closed-done (walked c.args.marks.now c.args.order.now c.args.c) c.args.d.0 c.if-c.false, c.put.ensures, c.saturating_sub-at.ensures)
