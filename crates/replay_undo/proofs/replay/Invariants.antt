use Rattle.std.proofs.Common.{◌-◌, length}
use Rattle.replay_undo.specs.Replay.{Replayed}
use Rattle.replay_undo.proofs.replay.Given as goal

abbrev pub invariant-loop-at : goal.invariant-loop-at
invariant-loop-at l = Replayed l.input l.at l.t

abbrev pub decreases-loop-at : goal.decreases-loop-at
decreases-loop-at l = length l.input - l.at
