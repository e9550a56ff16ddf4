-- So many of the first i definitions hold. Assumes nothing.
use Rattle.std.proofs.Common.{◌≡◌, ◌≤◌}
use Rattle.replay_records.specs.Words.{holding_of}
use Rattle.replay_records.proofs.words.holding.Given as goal

abbrev pub invariant-loop-i : goal.invariant-loop-i
invariant-loop-i l = (l.c ≤ l.i) × (l.c ≡ holding_of l.defs l.i l.values l.at l.flags l.words)
