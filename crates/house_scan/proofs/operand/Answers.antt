-- A count that does not fit is told before any term is looked at; else the fault is that of the terms. Assumes nothing.
use mathlib.Core.Path.{sym, ◌∙◌}
use native.Mathlib.Omega.{arith}
use Rattle.std.proofs.lemmas.Result.{err_from_is_err_and}
use Rattle.house_scan.proofs.Laws.{operand_short, operand_over, operand_in}
use Rattle.house_scan.proofs.operand.Goals as goal

pub returns-then-end-at-clause-fault : goal.returns-then-end-at-clause-fault
returns-then-end-at-clause-fault c = sym (operand_short c.args.s.now c.args.wires c.args.end c.args.at (omega arith))

pub returns-then-end-next-clause-fault : goal.returns-then-end-next-clause-fault
returns-then-end-next-clause-fault c =
    sym (operand_over c.args.s.now c.args.wires c.args.end c.args.at (omega arith) (omega arith))

pub returns-in_err-terms-clause-fault : goal.returns-in_err-terms-clause-fault
returns-in_err-terms-clause-fault c =
    let p = err_from_is_err_and c.from_residual.result c.from_residual.ensures.1 in
    let k = rw c.num-n.ensures.0 at c.in_err-terms.ensures in
    rw (p.1, p.2) (k ∙ sym (operand_in c.args.s.now c.args.wires c.args.end c.args.at (omega arith) (omega arith)))

pub returns-clause-fault : goal.returns-clause-fault
returns-clause-fault c =
    rw c.num-n.ensures.0 at c.in_ok-terms.ensures ∙ sym (operand_in c.args.s.now c.args.wires c.args.end c.args.at (omega arith) (omega arith))
