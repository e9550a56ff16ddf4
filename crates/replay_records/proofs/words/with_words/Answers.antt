-- A part of the words. Assumes nothing.
use Rattle.replay_records.proofs.Calls.{some_words}
use Rattle.replay_records.proofs.words.with_words.Goals as goal

pub returns : goal.returns
returns c = some_words _ _ _ _ _ _ _ _ c.min-n.ensures c.filled_in.ensures
