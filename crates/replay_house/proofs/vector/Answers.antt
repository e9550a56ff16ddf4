-- Where the file is there. Assumes nothing.
use Rattle.std.proofs.Common.{◌≡◌, ◌+◌, ◌-◌, ◌∙◌, arith}
use Rattle.replay_house.specs.Replay.{state_of}
use Rattle.replay_house.proofs.Passes.{vector_short, vector_is}
use Rattle.replay_house.proofs.vector.Goals as goal

pub returns-then-input-end : goal.returns-then-input-end
returns-then-input-end c = rw c.count.ensures (vector_short c.args.input.now c.args.at c.args.n (state_of c.args.one.now c.args.two.now c.args.t) c.if-input-end.true)

pub returns : goal.returns
returns c =
    let e : c.args.at + c.args.n - c.args.at ≡ c.args.n = omega arith in
    let q = rw (e, c.expected.ensures) at c.file_of.ensures in
    q ∙ vector_is c.args.input.now c.args.at c.args.n (state_of c.args.one.now c.args.two.now c.args.t) c.if-input-end.false
