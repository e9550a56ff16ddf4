-- The field that is cut is found from where the walk stands; its start never passes the end. Assumes nothing.
use Rattle.std.proofs.Common.{◌≡◌, ◌+◌, ◌-◌, length, sym, ap, ◌∙◌, arith, le-leb}
use borrow.Author.Tests.{lt-leb}
use Rattle.house_file.specs.Decoding.{field_end}
use Rattle.replay_house.specs.Replay.{cut_from, cut_at}
use Rattle.replay_house.proofs.Made.{cut_head, cut_here, cut_on, cut_end}
use Rattle.replay_house.proofs.limits.cut_field.Goals as goal

pub returns-then-file-end : goal.returns-then-file-end
unfolding cut_at
returns-then-file-end c = rw (lt-leb c.args.end (length c.args.file.now) c.if-file-end.true)

pub returns-then-end-at : goal.returns-then-end-at
unfolding cut_at
returns-then-end-at c =
    rw (le-leb c.args.end (length c.args.file.now) c.if-file-end.false) (sym (c.loop.invariant.0 ∙ cut_head c.args.file.now c.args.end c.loop.at c.args.end c.loop.counter (omega arith) c.if-end-at.true))

pub returns-then-end-next : goal.returns-then-end-next
unfolding cut_at
returns-then-end-next c =
    rw (le-leb c.args.end (length c.args.file.now) c.if-file-end.false) (sym (c.loop.invariant.0 ∙ cut_here c.args.file.now c.args.end c.loop.at c.args.end c.loop.counter (omega arith) c.if-end-at.false (omega (arith, c.if-end-next.true, c.num.ensures.0))))

pub loop-preserved : goal.loop-preserved
loop-preserved c =
    let e : field_end c.args.file.now c.loop.at ≡ c.loop.at + 3 + c.num.result = omega (arith, c.num.ensures.0) in (
      c.loop.invariant.0 ∙ cut_on c.args.file.now c.args.end c.loop.at c.args.end c.loop.counter (omega arith) c.if-end-at.false (omega (arith, e, c.if-end-next.false))
          ∙ ap (cut_from c.args.file.now c.args.end (c.args.end - (c.loop.counter + 1))) e,
      c.if-end-next.false,
    )

pub returns : goal.returns
unfolding cut_at
returns c =
    rw (le-leb c.args.end (length c.args.file.now) c.if-file-end.false) (sym (c.loop.invariant.0 ∙ cut_end c.args.file.now c.args.end c.loop.at _ (omega arith)))
