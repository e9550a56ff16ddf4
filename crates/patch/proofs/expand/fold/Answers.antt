-- Where two of the shifts are identities the third is what is left. Assumes nothing.
use Rattle.patch.proofs.Folds.{over-plus, over-low, fold_lone, fold_kept, lone-none, lone-some}
use Rattle.patch.specs.Spelling.{inner_of, outer_of, folded_as}
use Rattle.std.specs.Prelude.{Some}
use Rattle.operand.specs.Push.{push_valid}
use Rattle.operand.specs.Numbers.{Term, term_of}
use Rattle.shift.proofs.Numbers.{valid-low}
use Rattle.shift.specs.Shifts.{valid_number, shift_at}
use Prim.Native.Nat.{ℕ, ◌*◌, ◌%◌}
use mathlib.Core.Path.{◌≡◌, sym, ap, ◌∙◌}
use native.Mathlib.Omega.{arith}
use Rattle.patch.proofs.expand.fold.Goals as goal

pub returns-then-s-eq0 : goal.returns-then-s-eq0
returns-then-s-eq0 c =
    let o : (term_of c.args.over).outer % 64 ≡ 0 = omega (arith, c.outer-o.ensures, c.if-o-eq0.true) in
    let i : (term_of c.args.over).inner % 64 ≡ 0 = omega (arith, c.inner-i.ensures, c.if-i-eq0.true) in
    lone-none c.args.s c.if-s-eq0.true ∙ sym (ap folded_as (fold_lone (inner_of c.args.over) (outer_of c.args.over) (shift_at c.args.s) o i))

pub overflow_mul-result : goal.overflow_mul-result
overflow_mul-result c = omega (arith, valid-low c.args.s c.requires.1)

pub returns-then-i-eq0 : goal.returns-then-i-eq0
returns-then-i-eq0 c =
    let o : (term_of c.args.over).outer % 64 ≡ 0 = omega (arith, c.outer-o.ensures, c.if-o-eq0.true) in
    let i : (term_of c.args.over).inner % 64 ≡ 0 = omega (arith, c.inner-i.ensures, c.if-i-eq0.true) in
    lone-some c.args.s c.requires.1 c.if-s-eq0.false ∙ sym (ap folded_as (fold_lone (inner_of c.args.over) (outer_of c.args.over) (shift_at c.args.s) o i))

pub returns-then-s-eq0-2 : goal.returns-then-s-eq0-2
returns-then-s-eq0-2 c =
    let o : (term_of c.args.over).outer % 64 ≡ 0 = omega (arith, c.outer-o.ensures, c.if-o-eq0.true) in
    let i : (term_of c.args.over).inner % 64 ≡ 0 → ⊥ = λ z. c.if-i-eq0.false (omega (arith, c.inner-i.ensures, z)) in
    ap (λ (x : ℕ). Some (65536 * x)) c.inner-i.ensures ∙ lone-some (term_of c.args.over).inner c.requires.0.1.0 i ∙ sym (ap folded_as (fold_kept (inner_of c.args.over) (outer_of c.args.over) (shift_at c.args.s) o c.if-s-eq0-2.true))

pub overflow_add-over : goal.overflow_add-over
overflow_add-over c = omega (arith, over-low c.args.over c.requires.0, valid-low c.args.s c.requires.1)

pub fold_three-requires : goal.fold_three-requires
fold_three-requires c =
    let e = over-plus c.args.over c.args.s c.requires.0.0 (omega (arith, valid-low c.args.s c.requires.1)) in
    (ap (λ (t : Term). valid_number t.wire) e ∙ c.requires.1, (ap (λ (t : Term). valid_number t.inner) e ∙ c.requires.0.1.0, ap (λ (t : Term). valid_number t.outer) e ∙ c.requires.0.1.1))

pub returns : goal.returns
returns c =
    let e = over-plus c.args.over c.args.s c.requires.0.0 (omega (arith, valid-low c.args.s c.requires.1)) in
    c.fold_three.ensures ∙ ap (λ (t : Term). folded_as (push_valid (shift_at t.inner) (shift_at t.outer) (shift_at t.wire) 2)) e
