use Rattle.replay_undo.specs.Replay.{VectorReplayed}
use Rattle.std.proofs.Common.{◌≤◌}
use Rattle.replay_undo.proofs.replay_vector.Given as goal

abbrev pub invariant-loop-kind : goal.invariant-loop-kind
invariant-loop-kind l = VectorReplayed l.case.file.now l.case.slots l.case.seed l.initial.t l.kind l.t
