use Rattle.std.proofs.Common.{◌≡◌}
use Rattle.replay_decision.specs.Replay.{flags_of}
use Rattle.replay_decision.proofs.mark.Given as goal

abbrev pub invariant-loop-i : goal.invariant-loop-i
invariant-loop-i l = l.met ≡ flags_of l.decisions l.dsts l.i l.initial.met
