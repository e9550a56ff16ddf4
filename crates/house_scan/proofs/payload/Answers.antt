-- The destination, the operands and what is left over come in this order, and the first fault is the payload's. Assumes nothing.
use native.Mathlib.Omega.{arith}
use Rattle.std.proofs.lemmas.Result.{err_from_is_err_and}
use Rattle.house_scan.proofs.Laws.{payload_dest, payload_operands, payload_left, payload_fine}
use Rattle.house_scan.proofs.payload.Goals as goal

pub returns-in_err-start-clause-fault : goal.returns-in_err-start-clause-fault
returns-in_err-start-clause-fault c =
    let p = err_from_is_err_and c.from_residual.result c.from_residual.ensures.1 in
    rw (p.1, p.2) (payload_dest c.args.s.now c.args.wires c.args.tag c.args.end c.args.at _ c.in_err-start.ensures.fault)

pub returns-in_err-all-clause-fault : goal.returns-in_err-all-clause-fault
returns-in_err-all-clause-fault c =
    let a = c.args in
    let p = err_from_is_err_and c.from_residual-in_err-all.result c.from_residual-in_err-all.ensures.1 in
    rw (p.1, p.2) (payload_operands a.s.now a.wires a.tag a.end a.at c.in_ok-start.ensures.fault c.arity_of.ensures.0 c.in_ok-start.ensures.start.is _ c.in_err-all.ensures.fault)

pub returns-then-all-end-clause-fault : goal.returns-then-all-end-clause-fault
returns-then-all-end-clause-fault c =
    let a = c.args in
    payload_left a.s.now a.wires a.tag a.end a.at c.in_ok-start.ensures.fault c.arity_of.ensures.0 c.in_ok-start.ensures.start.is c.in_ok-all.ensures.fault
    (omega (arith, c.in_ok-all.ensures.part.next_is, c.if-all-end.true))

pub returns-clause-fault : goal.returns-clause-fault
returns-clause-fault c =
    let a = c.args in
    payload_fine a.s.now a.wires a.tag a.end a.at c.in_ok-start.ensures.fault c.arity_of.ensures.0 c.in_ok-start.ensures.start.is c.in_ok-all.ensures.fault
    (omega (arith, c.in_ok-all.ensures.part.next_is, c.if-all-end.false))
