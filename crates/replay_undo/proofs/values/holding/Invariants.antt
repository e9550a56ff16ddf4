use Rattle.replay_undo.specs.Values.{holding_of}
use Rattle.std.proofs.Common.{◌≡◌, ◌≤◌}
use Rattle.replay_undo.proofs.values.holding.Given as goal

abbrev pub invariant-loop-i : goal.invariant-loop-i
invariant-loop-i l = (l.c ≤ l.i) × (l.c ≡ holding_of l.dsts l.assigned.values.now l.at l.i l.assigned.words.now)
