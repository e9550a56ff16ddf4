use Rattle.std.proofs.Common.{◌≡◌}
use Rattle.replay_decision.specs.Replay.{digest_of}
use Rattle.replay_decision.proofs.digest_of.Given as goal

abbrev pub invariant-loop-i : goal.invariant-loop-i
invariant-loop-i l = (l.digest ≡ digest_of l.l l.i l.start)
