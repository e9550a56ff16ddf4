-- 3 to 6 by the checks in memory, then 13, then 12. Assumes nothing.
use Rattle.std.proofs.Common.{arith, sym}
use Rattle.lower.proofs.Refusals.{number_some, exit_is}
use Rattle.evaluate.proofs.Answering.{few, operands_count, fault_memory, fault_size, fault_room, fault_none}
use Rattle.evaluate.proofs.check.Goals as goal

pub returns-in_err-check : goal.returns-in_err-check
returns-in_err-check c = exit_is _ _ _ c.from_residual.ensures.1 (fault_memory _ _ _ _ _ c.in_err-check.ensures (number_some _))

pub returns-then-n-z : goal.returns-then-n-z
returns-then-n-z c = fault_size _ _ _ _ (sym c.in_ok-check.ensures) (λ e. omega (arith, e, c.if-n-z.true))

pub count-requires : goal.count-requires
count-requires c = few _ _ (sym c.in_ok-check.ensures)

pub returns-then-room-count : goal.returns-then-room-count
returns-then-room-count c =
    let e = sym c.in_ok-check.ensures in
    fault_room _ _ _ _ e (omega (arith, c.if-n-z.false)) (omega (arith, operands_count _ _ e, c.count.ensures, c.if-room-count.true))

pub returns : goal.returns
returns c =
    let e = sym c.in_ok-check.ensures in
    fault_none _ _ _ _ e (omega (arith, c.if-n-z.false)) (omega (arith, operands_count _ _ e, c.count.ensures, c.if-room-count.false))
