-- One assignment after the other. Assumes nothing.
use Rattle.replay_undo.specs.Replay.{none, more}
use Rattle.replay_undo.proofs.replay_vector.Goals as goal

pub loop-kind-init : goal.loop-kind-init
loop-kind-init c = none

pub loop-kind-preserved : goal.loop-kind-preserved
loop-kind-preserved c = more c.loop-kind.invariant c.attempt.ensures
