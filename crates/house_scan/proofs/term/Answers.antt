-- Wire, inner and outer shift are looked at in this order, and the first that fails is the fault. Assumes nothing.
use mathlib.Core.Path.{sym, ap, ◌∙◌}
use Rattle.std.proofs.lemmas.Result.{err_from_is_err_and}
use Rattle.shift.specs.Answers.{found}
use native.Mathlib.Omega.{arith}
use Rattle.house_scan.proofs.Laws.{term_wire, term_inner, term_outer, term_sound}
use Rattle.house_scan.proofs.term.Goals as goal

pub returns-then-wires-num : goal.returns-then-wires-num
returns-then-wires-num c = sym (term_wire c.args.s.now c.args.wires c.args.at (omega arith))

pub returns-in_err-from_index : goal.returns-in_err-from_index
returns-in_err-from_index c =
    let p = err_from_is_err_and c.from_residual.result c.from_residual.ensures.1 in
    rw (p.1, p.2) (term_inner c.args.s.now c.args.wires c.args.at _ (omega arith) (ap found (sym c.num-2.ensures.0) ∙ sym c.from_index.ensures.0 ∙ c.in_err-from_index.was))

pub returns-in_err-from_index-2 : goal.returns-in_err-from_index-2
returns-in_err-from_index-2 c =
    let p = err_from_is_err_and c.from_residual-in_err-from_index-2.result c.from_residual-in_err-from_index-2.ensures.1 in
    rw (p.1, p.2) (term_outer c.args.s.now c.args.wires c.args.at _ (omega arith)
    (ap found (sym c.num-2.ensures.0) ∙ sym c.from_index.ensures.0 ∙ c.in_ok-from_index.was)
    (ap found (sym c.num-3.ensures.0) ∙ sym c.from_index-2.ensures.0 ∙ c.in_err-from_index-2.was))

pub returns : goal.returns
returns c =
    term_sound c.args.s.now c.args.wires c.args.at (omega arith)
    (ap found (sym c.num-2.ensures.0) ∙ sym c.from_index.ensures.0 ∙ c.in_ok-from_index.was)
    (ap found (sym c.num-3.ensures.0) ∙ sym c.from_index-2.ensures.0 ∙ c.in_ok-from_index-2.was)
