-- The bits that the inner shift moves to those that the outer one keeps. Assumes nothing.
use Rattle.patch.specs.Spelling.{inner_of}
use Rattle.alive.specs.Masks.{ones, pulled}
use Rattle.shift.specs.Shifts.{valid_number, shift_at}
use Prim.Native.Nat.{ℕ}
use mathlib.Core.Bool.{true}
use mathlib.Core.Path.{◌≡◌, sym, ap, ◌∙◌, subst}
use Rattle.patch.proofs.expand.through.Goals as goal

pub pull-mask-requires : goal.pull-mask-requires
pull-mask-requires c = subst (λ (n : ℕ). valid_number n ≡ true) (sym c.outer.ensures) c.requires.1

pub pull-requires : goal.pull-requires
pull-requires c = subst (λ (n : ℕ). valid_number n ≡ true) (sym c.inner.ensures) c.requires.0

pub returns : goal.returns
returns c = c.pull.ensures ∙ ap (λ (n : ℕ). pulled (shift_at n) c.pull-mask.result) c.inner.ensures ∙ ap (pulled (inner_of c.args.t)) (c.pull-mask.ensures ∙ ap (λ (n : ℕ). pulled (shift_at n) ones) c.outer.ensures)
