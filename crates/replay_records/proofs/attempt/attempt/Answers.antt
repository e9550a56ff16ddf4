-- The file is read, and gone on with by the answer. Assumes nothing.
use Rattle.std.proofs.Common.{[]}
use Rattle.replay_records.proofs.Calls.{not_read, was_read, was_attempted}
use Rattle.replay_records.proofs.attempt.attempt.Goals as goal

pub returns-in-Err : goal.returns-in-Err
returns-in-Err c = was_attempted _ c.read-loaded.result _ _ _ _ _ _ _ _ _ _ _ [] [] [] [] c.read-loaded.ensures (not_read _ _ _ _ _ _ _ _ _ _ _ c.in-Err.is c.refused.ensures)

pub returns-in-Ok : goal.returns-in-Ok
returns-in-Ok c = was_attempted _ c.read-loaded.result _ _ _ _ _ _ _ _ _ _ _ _ _ _ _ c.read-loaded.ensures (was_read _ _ _ _ _ _ _ _ _ _ _ c.in-Ok.is c.in_room.ensures)
