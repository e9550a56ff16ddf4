-- What `fuse` left is judged. Assumes nothing.
use Rattle.replay_fuse.proofs.attempt.fused_in.Goals as goal

pub returns : goal.returns
returns c = record { answer = _; fuses = c.fuse-answer.ensures; judged = c.judge.ensures }
