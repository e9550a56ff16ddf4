-- What fusing left is written, and judged. Assumes nothing.
use Rattle.replay_records.proofs.Calls.{was_fused}
use Rattle.replay_records.proofs.attempt.fused_in.Goals as goal

pub returns : goal.returns
returns c = was_fused _ _ _ _ _ _ _ _ _ _ _ c.fuse-patched.result.defs _ _ _ c.fuse-patched.ensures c.sizes_after.ensures c.write_records-written.ensures c.judge.ensures
