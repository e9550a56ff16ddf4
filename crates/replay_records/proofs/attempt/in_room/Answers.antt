-- Parts of the two stores. Assumes nothing.
use Rattle.replay_records.proofs.Calls.{in_parts}
use Rattle.replay_records.proofs.attempt.in_room.Goals as goal

pub returns : goal.returns
returns c = in_parts _ _ _ _ _ _ _ _ _ _ _ _ _ _ _ c.min-n.ensures c.min-m.ensures c.fused_in.ensures
