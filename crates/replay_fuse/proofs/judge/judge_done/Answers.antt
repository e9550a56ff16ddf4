-- Counts and flags, the rest, and the file. Assumes nothing.
use Rattle.replay_fuse.proofs.judge.judge_done.Goals as goal

pub returns : goal.returns
returns c =
    record {
      same = _;
      bytes = _;
      kept = rw c.starts_after.ensures at c.kept-is_kept.ensures;
      wrote = rw c.sizes_after.ensures at c.wrote-bytes.ensures;
      seen = rw c.told_right-is_told.ensures at c.done_seen.ensures;
    }
