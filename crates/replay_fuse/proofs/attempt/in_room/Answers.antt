-- Parts of the two stores. Assumes nothing.
use Rattle.replay_fuse.proofs.attempt.in_room.Goals as goal

pub returns : goal.returns
returns c = record { new = _; flags = _; fused = rw (c.min-n.ensures, c.min-m.ensures) at c.fused_in.ensures }
