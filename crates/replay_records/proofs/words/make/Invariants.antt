-- The first i words are made. Assumes nothing.
use Rattle.std.proofs.Common.{◌≡◌}
use Rattle.replay_records.specs.Words.{made_words}
use Rattle.replay_records.proofs.words.make.Given as goal

abbrev pub invariant-loop-i : goal.invariant-loop-i
invariant-loop-i l = l.words ≡ made_words l.i l.initial.words
