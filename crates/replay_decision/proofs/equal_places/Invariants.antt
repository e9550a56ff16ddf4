use Rattle.std.proofs.Common.{◌≡◌, ◌≤◌}
use Rattle.replay_decision.specs.Replay.{equal_places}
use Rattle.replay_decision.proofs.equal_places.Given as goal

abbrev pub invariant-loop-i : goal.invariant-loop-i
invariant-loop-i l = (l.c ≤ l.i) × (l.c ≡ equal_places l.flags l.met l.i)
