-- The three shifts are taken out of the number. Assumes nothing.
use Rattle.patch.specs.Spelling.{inner_of, outer_of, folded_as}
use Rattle.operand.specs.Push.{push_valid}
use Rattle.shift.specs.Shifts.{valid_number, shift_at}
use Rattle.shift.specs.declared.Shift.{Shift}
use Prim.Native.Nat.{ℕ}
use mathlib.Core.Bool.{true}
use mathlib.Core.Path.{◌≡◌, sym, ap, ◌∙◌, subst}
use Rattle.patch.proofs.expand.fold_three.Goals as goal

pub from_index-requires : goal.from_index-requires
from_index-requires c = subst (λ (n : ℕ). valid_number n ≡ true) (sym c.inner.ensures) c.requires.1.0

pub from_index-requires-2 : goal.from_index-requires-2
from_index-requires-2 c = subst (λ (n : ℕ). valid_number n ≡ true) (sym c.outer.ensures) c.requires.1.1

pub returns : goal.returns
returns c =
    let i = c.from_index.ensures.0 ∙ ap shift_at c.inner.ensures in
    let o = c.from_index-2.ensures.0 ∙ ap shift_at c.outer.ensures in
    c.fold_shifts.ensures
    ∙ ap (λ (x : Shift). folded_as (push_valid x c.from_index-2.result c.from_index-3.result 2)) i
    ∙ ap (λ (x : Shift). folded_as (push_valid (inner_of c.args.x) x c.from_index-3.result 2)) o
    ∙ ap (λ (x : Shift). folded_as (push_valid (inner_of c.args.x) (outer_of c.args.x) x 2)) c.from_index-3.ensures.0
