-- What is seen and written again, held against the first time. Assumes nothing.
use Rattle.std.proofs.Common.{◌∙◌}
use Rattle.replay_house.proofs.Passes.{compared_is}
use Rattle.replay_house.proofs.pass.compared.Goals as goal

pub returns : goal.returns
returns c = (
  c.bytes.ensures ∙ rw (c.count-2.ensures, c.count.ensures) (compared_is c.args.seen c.args.file.now c.args.two.now c.args.t c.pass.ensures c.same-is_same.ensures c.same-is_equal.ensures),
  c.pass.ensures.bytes_are,
)
