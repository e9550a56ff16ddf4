-- What is left to look at has the fault of the whole; the offset and the terms met make up the rest. Assumes nothing.
use mathlib.Core.Path.{◌≡◌, refl, sym, ap, ◌∙◌}
use Prim.Native.Nat.{ℕ, ◌+◌, ◌-◌}
use native.Mathlib.Omega.{arith}
use Rattle.std.proofs.lemmas.Result.{err_from_is_err_and}
use Rattle.house_file.specs.Decoding.{operands_next, operands_terms}
use Rattle.house_file.specs.Reading.{operands_fault}
use Rattle.house_file.proofs.Faults.{first_told}
use Rattle.house_scan.proofs.Laws.{operands_step, operands_go, operands_none, next_step, next_none, sum_step, sum_none}
use Rattle.house_scan.proofs.operands.Goals as goal

pub returns-in_err-one-clause-fault : goal.returns-in_err-one-clause-fault
returns-in_err-one-clause-fault c =
    let a = c.args in
    let p = err_from_is_err_and c.from_residual.result c.from_residual.ensures.1 in
    rw (p.1, p.2) (first_told _ _ c.in_err-one.ensures.fault ∙ sym (c.loop.invariant.fault ∙ operands_step a.s.now a.wires a.end c.loop.all.next a.k c.loop.counter (omega arith)))

pub loop-preserved : goal.loop-preserved
loop-preserved c =
    let a = c.args in
    let part = c.in_ok-one.ensures.part in
    record {
      fault = c.loop.invariant.fault ∙ operands_go a.s.now a.wires a.end c.loop.all.next a.k c.loop.counter (omega arith) c.in_ok-one.ensures.fault
          ∙ ap (operands_fault a.s.now a.wires a.end (a.k - (c.loop.counter + 1))) (sym part.next_is);
      next = c.loop.invariant.next ∙ next_step a.s.now c.loop.all.next a.k c.loop.counter (omega arith)
          ∙ ap (operands_next a.s.now (a.k - (c.loop.counter + 1))) (sym part.next_is);
      terms = rw part.next_is (omega (arith, sum_step a.s.now c.loop.all.next a.k c.loop.counter (omega arith), part.terms_are));
      fits = omega (arith, part.fits);
      inside = part.inside;
    }

pub returns-clause-fault : goal.returns-clause-fault
returns-clause-fault c =
    let a = c.args in
    let done : a.k - c.loop.counter ≡ 0 = omega arith in
    sym (c.loop.invariant.fault ∙ rw (done, operands_none a.s.now a.wires a.end c.loop.all.next))

pub returns-clause-part : goal.returns-clause-part
returns-clause-part c =
    let a = c.args in
    let done : a.k - c.loop.counter ≡ 0 = omega arith in
    record {
      next_is = sym (c.loop.invariant.next ∙ rw (done, next_none a.s.now c.loop.all.next));
      terms_are = omega (arith, c.loop.invariant.terms, sum_none a.s.now c.loop.all.next, ap (λ (k : ℕ). operands_terms a.s.now k c.loop.all.next) done);
      fits = c.loop.invariant.fits;
      inside = c.loop.invariant.inside;
    }
