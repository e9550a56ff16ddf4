-- What was read once more, against all that was lent. Assumes nothing.
use Rattle.std.proofs.Common.{[]}
use Rattle.lower.specs.Stores.{stores}
use Rattle.replay_fuse.proofs.judge.kept.Goals as goal

pub returns : goal.returns
returns c = record { before = stores _ [] _ _ _ _ _ _; answer = _; reads = c.read.ensures; right = c.all_kept.ensures }
