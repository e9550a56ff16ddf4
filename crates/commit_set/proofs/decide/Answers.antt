-- The checks, then the walk and the decisions. Assumes nothing.
use mathlib.Core.Path.{refl, sym, ◌∙◌}
use native.Mathlib.Omega.{arith}
use Rattle.lower.proofs.Refusals.{number_some, exit_is}
use Rattle.commit_set.specs.Answer.{refused}
use Rattle.commit_set.proofs.Answers.{slots_few}
use Rattle.commit_set.proofs.decide.Goals as goal

pub returns-in_err-check : goal.returns-in_err-check
returns-in_err-check c =
    let p = exit_is _ _ _ c.from_residual.ensures.1 c.in_err-check.ensures in
    refused p (λ e. number_some _ (c.in_err-check.ensures ∙ sym p ∙ e)) refl

pub overflow_cast-slots : goal.overflow_cast-slots
overflow_cast-slots c = omega (arith, slots_few _ _ _ (sym c.in_ok-check.ensures))
