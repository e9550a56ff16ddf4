use Rattle.replay_undo.specs.Places.{rows_mixed}
use Rattle.std.proofs.Common.{◌≡◌}
use Rattle.replay_undo.proofs.places.rows_mixed.Given as goal

abbrev pub invariant-loop-i : goal.invariant-loop-i
invariant-loop-i l = (l.sum ≡ rows_mixed l.l l.at l.i l.k l.start)
