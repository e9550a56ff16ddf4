use Rattle.replay_undo.specs.Places.{same_places}
use Rattle.std.proofs.Common.{◌≡◌, ◌≤◌}
use Rattle.replay_undo.proofs.places.same_numbers.Given as goal

abbrev pub invariant-loop-i : goal.invariant-loop-i
invariant-loop-i l = (l.c ≤ l.i) × (l.c ≡ same_places l.a l.b l.from l.i)
