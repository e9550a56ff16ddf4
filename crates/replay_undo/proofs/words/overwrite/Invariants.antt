use Rattle.replay_undo.specs.Words.{overwritten}
use Rattle.std.proofs.Common.{◌≡◌}
use Rattle.replay_undo.proofs.words.overwrite.Given as goal

abbrev pub invariant-loop-i : goal.invariant-loop-i
invariant-loop-i l = (l.words ≡ overwritten l.dsts l.flags l.i l.initial.words)
