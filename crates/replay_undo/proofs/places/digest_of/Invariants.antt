use Rattle.replay_undo.specs.Places.{digest_of}
use Rattle.std.proofs.Common.{◌≡◌}
use Rattle.replay_undo.proofs.places.digest_of.Given as goal

abbrev pub invariant-loop-i : goal.invariant-loop-i
invariant-loop-i l = l.digest ≡ digest_of l.l l.i l.start
