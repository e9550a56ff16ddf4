use Rattle.std.proofs.Common.{◌≡◌, ◌≤◌}
use Rattle.replay_decision.specs.Replay.{count_of}
use Rattle.replay_decision.proofs.count.Given as goal

abbrev pub invariant-loop-i : goal.invariant-loop-i
invariant-loop-i l = (l.c ≤ l.i) × (l.c ≡ count_of l.l l.x l.i)
