-- The stores are made, then written. Assumes nothing.
use Rattle.replay_house.proofs.Passes.{make_is}
use Rattle.replay_house.proofs.limits.make.Goals as goal

pub returns : goal.returns
returns c = make_is c.args.c c.fill.ensures c.write.ensures
