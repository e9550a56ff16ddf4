-- The first field is tested in the order of the definition. Assumes nothing.
use Rattle.std.proofs.lemmas.Result.{err_from_is_err_and}
use native.Mathlib.Omega.{arith}
use Rattle.house_scan.proofs.Laws.{wires_shut, wires_shape, wires_zero, wires_over, wires_fine}
use Rattle.house_scan.proofs.wire_count.Goals as goal

pub returns-in_err-head-clause-fault : goal.returns-in_err-head-clause-fault
returns-in_err-head-clause-fault c =
    let p = err_from_is_err_and c.from_residual.result c.from_residual.ensures.1 in
    rw (p.1, p.2) (wires_shut c.args.s.now _ c.in_err-head.ensures.fault)

pub returns-then-head-ne5-clause-fault : goal.returns-then-head-ne5-clause-fault
returns-then-head-ne5-clause-fault c =
    wires_shape c.args.s.now c.in_ok-head.ensures.fault (λ e. c.if-head-ne5.true (omega (arith, c.in_ok-head.ensures.head)))

pub returns-then-wires-eq0-clause-fault : goal.returns-then-wires-eq0-clause-fault
returns-then-wires-eq0-clause-fault c =
    wires_zero c.args.s.now c.in_ok-head.ensures.fault (omega (arith, c.in_ok-head.ensures.head)) (omega arith)

pub returns-then-wires-gt-MAX_WIRES-clause-fault : goal.returns-then-wires-gt-MAX_WIRES-clause-fault
returns-then-wires-gt-MAX_WIRES-clause-fault c =
    wires_over c.args.s.now c.in_ok-head.ensures.fault (omega (arith, c.in_ok-head.ensures.head)) (λ e. c.if-wires-eq0.false (omega arith)) (omega arith)

pub returns-clause-fault : goal.returns-clause-fault
returns-clause-fault c =
    wires_fine c.args.s.now c.in_ok-head.ensures.fault (omega (arith, c.in_ok-head.ensures.head)) (λ e. c.if-wires-eq0.false (omega arith)) (omega arith)
