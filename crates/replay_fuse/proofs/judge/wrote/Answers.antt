-- What `write` left, compared. Assumes nothing.
use Rattle.replay_fuse.proofs.judge.wrote.Goals as goal

pub returns : goal.returns
returns c = record { out = _; answer = _; writes = c.write-written.ensures; seen = c.bytes_seen.ensures }
