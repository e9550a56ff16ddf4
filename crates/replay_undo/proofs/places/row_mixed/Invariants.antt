use Rattle.replay_undo.specs.Places.{turns, mixed}
use Rattle.std.proofs.Common.{◌≡◌, ℕ, ◌+◌, get_or}
use Rattle.replay_undo.proofs.places.row_mixed.Given as goal

abbrev pub invariant-loop-i : goal.invariant-loop-i
invariant-loop-i l = (l.digest ≡ turns ℕ (λ i d. mixed d (get_or l.l (l.at + i) 0)) l.i l.start)
