-- Where both stores have room for the file. Assumes nothing.
use Rattle.std.proofs.Common.{◌≡◌, ◌-◌, arith}
use Rattle.replay_house.proofs.Passes.{again_short_one, again_short_two, again_is}
use Rattle.replay_house.proofs.pass.again.Goals as goal

pub returns-then-one-n : goal.returns-then-one-n
returns-then-one-n c = rw c.count.ensures (again_short_one c.args.seen c.args.one.now c.args.two.now c.args.t c.if-one-n.true)

pub returns-then-two-n : goal.returns-then-two-n
returns-then-two-n c = rw c.count-then-two-n.ensures (again_short_two c.args.seen c.args.one.now c.args.two.now c.args.t c.if-one-n.false c.if-two-n.true)

pub returns : goal.returns
returns c =
    let q = c.compared.ensures in
    rw (q.0, q.1) (again_is c.args.seen c.args.one.now c.args.two.now c.args.t c.if-one-n.false c.if-two-n.false)
