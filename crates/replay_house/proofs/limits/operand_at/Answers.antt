-- As it is defined. Assumes nothing.
use Rattle.replay_house.specs.Replay.{operand_made}
use Rattle.replay_house.proofs.limits.operand_at.Goals as goal

pub returns : goal.returns
unfolding operand_made
returns c = c.number.ensures
