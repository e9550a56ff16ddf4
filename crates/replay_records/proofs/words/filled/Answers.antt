-- The file is read, and gone on with by the answer. Assumes nothing.
use Rattle.replay_records.proofs.Calls.{file_filled, no_words, all_words}
use Rattle.replay_records.proofs.words.filled.Goals as goal

pub returns-in-Err : goal.returns-in-Err
returns-in-Err c = file_filled _ _ _ _ _ _ _ _ _ c.read-loaded.ensures (no_words _ _ _ _ _ c.in-Err.is)

pub returns-in-Ok : goal.returns-in-Ok
returns-in-Ok c = file_filled _ _ _ _ _ _ _ _ _ c.read-loaded.ensures (all_words _ _ _ _ _ _ c.in-Ok.is c.with_words.ensures)
