-- By the answer of fusing. Assumes nothing.
use Rattle.replay_records.specs.Judged.{refusal, done}
use Rattle.replay_records.proofs.judge.judge.Goals as goal

pub returns-in-Err : goal.returns-in-Err
returns-in-Err c = rw (c.in-Err.is, ← c.file_of-bytes.ensures) (refusal c.judge_refused.ensures)

pub returns-in-Ok : goal.returns-in-Ok
returns-in-Ok c = rw (c.in-Ok.is, ← c.file_of-bytes.ensures) (done c.judge_done.ensures)
