-- By the answer. Assumes nothing.
use Rattle.replay_fuse.specs.Judged.{refusal, done}
use Rattle.replay_fuse.proofs.judge.judge.Goals as goal

pub returns-in-Ok : goal.returns-in-Ok
returns-in-Ok c = rw c.in-Ok.is (done c.judge_done.ensures)

pub returns-in-Err : goal.returns-in-Err
returns-in-Err c = rw c.in-Err.is (refusal c.judge_refused.ensures)
