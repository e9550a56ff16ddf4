-- Number by number. Assumes nothing.
use Rattle.std.proofs.Common.{length, sym, ◌∙◌, le-leb, eq-eqb, ne_eqb}
use borrow.Author.Tests.{lt-leb}
use Rattle.replay_house.specs.Replay.{number_at, expected_at}
use Rattle.replay_house.proofs.expected.Goals as goal

pub returns-then-input-at : goal.returns-then-input-at
unfolding expected_at
returns-then-input-at c = rw (lt-leb c.args.at (length c.args.input.now) c.if-input-at.true)

pub returns-then-fault-eq0 : goal.returns-then-fault-eq0
unfolding expected_at
returns-then-fault-eq0 c =
    let z = eq-eqb (number_at c.args.input.now c.args.at) 0 (sym c.number-fault.ensures.0 ∙ c.if-fault-eq0.true) in
    rw (le-leb c.args.at (length c.args.input.now) c.if-input-at.false, c.number-8.ensures.0, c.number-7.ensures.0, c.number-6.ensures.0, c.number-5.ensures.0, c.number-4.ensures.0, c.number-3.ensures.0, c.number-2.ensures.0, c.number.ensures.0, c.number-fault.ensures.0, z)

pub returns-else-fault-eq0 : goal.returns-else-fault-eq0
unfolding expected_at
returns-else-fault-eq0 c =
    let z = ne_eqb (number_at c.args.input.now c.args.at) 0 (λ e. c.if-fault-eq0.false (c.number-fault.ensures.0 ∙ e)) in
    rw (le-leb c.args.at (length c.args.input.now) c.if-input-at.false, c.number-8.ensures.0, c.number-7.ensures.0, c.number-6.ensures.0, c.number-5.ensures.0, c.number-4.ensures.0, c.number-3.ensures.0, c.number-2.ensures.0, c.number.ensures.0, c.number-fault.ensures.0, z)
