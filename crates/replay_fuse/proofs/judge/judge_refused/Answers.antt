-- The told number, and all as it was. Assumes nothing.
use Rattle.std.proofs.Common.{rules}
use Rattle.replay_fuse.proofs.judge.judge_refused.Goals as goal

pub returns : goal.returns
returns c = record { same = _; kept = rw c.no_starts.ensures at c.kept-is_kept.ensures; seen = search rules }
