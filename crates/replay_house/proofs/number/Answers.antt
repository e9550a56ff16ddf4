-- Two numbers of two bytes. Assumes nothing.
use Rattle.std.proofs.Common.{◌+◌, length, arith, le-leb}
use borrow.Author.Tests.{lt-leb}
use Rattle.replay_house.specs.Replay.{number_at}
use Rattle.replay_house.proofs.number.Goals as goal

pub returns-then-input-lt4 : goal.returns-then-input-lt4
unfolding number_at
returns-then-input-lt4 c = (rw (lt-leb (c.args.at + 4) (length c.args.input.now) (omega arith)), omega arith)

pub returns-then-input-at : goal.returns-then-input-at
unfolding number_at
returns-then-input-at c = (rw (lt-leb (c.args.at + 4) (length c.args.input.now) (omega arith)), omega arith)

pub returns : goal.returns
unfolding number_at
returns c =
    (rw (le-leb (c.args.at + 4) (length c.args.input.now) (omega arith), c.num-2.ensures.0, c.num.ensures.0), omega arith)
