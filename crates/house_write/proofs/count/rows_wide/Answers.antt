-- Some row is wide just when one of those that are left is. Assumes nothing.
use mathlib.Core.Path.{◌≡◌, sym, ap, ◌∙◌}
use Prim.Native.Nat.{◌+◌, ◌-◌}
use native.Mathlib.Omega.{arith}
use Rattle.house_write.specs.Sizes.{rows_wide}
use Rattle.house_write.proofs.Counting.{rows_room, rows_stop, rows_go, rows_none}
use Rattle.house_write.proofs.count.rows_wide.Goals as goal

pub split_at-requires : goal.split_at-requires
split_at-requires c =
    omega (arith, c.loop.invariant.1, rows_room c.args.k c.args.n c.loop.counter c.loop.rest.now (omega arith))

pub returns-then-operands-gt-MAX_PAYLOAD : goal.returns-then-operands-gt-MAX_PAYLOAD
returns-then-operands-gt-MAX_PAYLOAD c =
    let e = rw c.split_at.ensures.front at c.operands.ensures.0 in
    sym (c.loop.invariant.0 ∙ rows_stop c.args.k c.args.n c.loop.counter c.loop.rest.now (omega arith) (omega (arith, e, c.if-operands-gt-MAX_PAYLOAD.true)))

pub loop-preserved : goal.loop-preserved
loop-preserved c =
    let a = c.args in
    let s = c.split_at.ensures in
    let e = rw s.front at c.operands.ensures.0 in (
      c.loop.invariant.0 ∙ rows_go a.k a.n c.loop.counter c.loop.rest.now (omega arith) (omega (arith, e, c.if-operands-gt-MAX_PAYLOAD.false))
          ∙ ap (rows_wide a.k (a.n - (c.loop.counter + 1))) (sym s.back),
      omega (arith, c.loop.invariant.1, s.back_len, rows_room a.k a.n c.loop.counter c.loop.rest.now (omega arith)),
    )

pub returns : goal.returns
returns c =
    let done : c.args.n - c.loop.counter ≡ 0 = omega arith in
    sym (c.loop.invariant.0 ∙ rw (done, rows_none c.args.k c.loop.rest.now))
