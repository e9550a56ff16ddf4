use Rattle.replay_fuse.specs.Places.{named_from}
use Rattle.std.proofs.Common.{◌≡◌, ◌≤◌}
use Rattle.replay_fuse.proofs.places.named.Given as goal

abbrev pub invariant-loop-i : goal.invariant-loop-i
invariant-loop-i l = (l.c ≤ l.i) × (l.c ≡ named_from l.flags l.dsts l.from l.i)
