-- What is left to lay, laid from where the walk stands, makes what is asked for. Assumes nothing.
use Rattle.tell.proofs.Laying.{lay_step, lay_end}
use mathlib.Core.Path.{refl, sym, ◌∙◌}
use Rattle.tell.proofs.lay.Goals as goal

pub loop-i-preserved : goal.loop-i-preserved
loop-i-preserved c = c.loop-i.invariant ∙ lay_step c.loop-i.values c.args.answer.now c.loop-i.i c.loop-i-test.true ∙ rw c.put.ensures

pub returns : goal.returns
returns c = sym (c.loop-i.invariant ∙ lay_end c.loop-i.values c.args.answer.now c.loop-i.i c.loop-i-test.false)
