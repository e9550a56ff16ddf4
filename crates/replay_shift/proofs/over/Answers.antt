-- Each turn of the loop is one step of the fold. Assumes nothing.
use Rattle.std.proofs.Common.{refl, ap, ◌∙◌, add-one}
use Rattle.replay_shift.specs.Tallies.{over}
use Rattle.replay_shift.proofs.over.Goals as goal

pub loop-k-init : goal.loop-k-init
unfolding over
loop-k-init g c = λ f h. refl

pub loop-k-preserved : goal.loop-k-preserved
unfolding over
loop-k-preserved g c = λ f h. rw add-one (h _ _ _ c.loop-k-test.true c.step-sum.ensures ∙ ap (f c.loop-k.k) (c.loop-k.invariant f h))
