-- One definition after the other. Assumes nothing.
use Rattle.std.proofs.Common.{ℕ, List}
use Rattle.replay_decision.proofs.Turns.{turns-none, marks_next}
use Rattle.replay_decision.proofs.mark.Goals as goal

pub loop-i-init : goal.loop-i-init
loop-i-init c = turns-none (List ℕ) _ _

pub loop-i-preserved : goal.loop-i-preserved
loop-i-preserved c = marks_next c.args.decisions.now c.args.dsts.now _ c.loop-i.i _ _ _ _ c.get.ensures c.get-in-loop-i.ensures c.loop-i.invariant c.mark_one.ensures
