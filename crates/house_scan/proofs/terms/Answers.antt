-- What is left to look at has the fault of the whole. Assumes nothing.
use mathlib.Core.Path.{◌≡◌, sym, ap, ◌∙◌}
use Prim.Native.Nat.{ℕ, ◌+◌, ◌*◌, ◌-◌}
use native.Mathlib.Omega.{arith}
use Rattle.std.proofs.lemmas.Result.{err_from_is_err_and}
use Rattle.lower.specs.Faults.{first_fault, term_fault}
use Rattle.house_file.specs.Decoding.{terms_at}
use Rattle.house_file.proofs.Faults.{first_told}
use Rattle.house_scan.proofs.Laws.{terms_step, terms_go, terms_none}
use Rattle.house_scan.proofs.terms.Goals as goal

pub returns-in_err-term : goal.returns-in_err-term
returns-in_err-term c =
    let a = c.args in
    let p = err_from_is_err_and c.from_residual.result c.from_residual.ensures.1 in
    rw (p.1, p.2) (first_told _ _ c.in_err-term.ensures ∙ sym (c.loop-i.invariant ∙ terms_step a.s.now a.wires a.at a.n c.loop-i.i (omega arith)))

pub loop-i-preserved : goal.loop-i-preserved
loop-i-preserved c =
    c.loop-i.invariant ∙ terms_go c.args.s.now c.args.wires c.args.at c.args.n c.loop-i.i (omega arith) c.in_ok-term.ensures

pub returns : goal.returns
returns c =
    let a = c.args in
    let done : a.n - c.loop-i.i ≡ 0 = omega arith in
    sym (c.loop-i.invariant
    ∙ ap (λ (k : ℕ). first_fault (term_fault a.wires) (terms_at a.s.now k (a.at + 6 * c.loop-i.i))) done
    ∙ terms_none a.s.now a.wires (a.at + 6 * c.loop-i.i))
