use Rattle.replay_undo.specs.Words.{made_words}
use Rattle.std.proofs.Common.{◌≡◌}
use Rattle.replay_undo.proofs.words.make.Given as goal

abbrev pub invariant-loop-i : goal.invariant-loop-i
invariant-loop-i l = (l.words ≡ made_words l.kind l.seed l.i l.initial.words)
