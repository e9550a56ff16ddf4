-- The checks in their order. Assumes nothing.
use mathlib.Core.Path.{sym, ◌∙◌}
use Rattle.lower.proofs.Checks.{memory_places, memory_wires}
use Rattle.lower.proofs.Refusals.{number_some, exit_is, exit_else}
use Rattle.commit_set.specs.Answer.{decision_fault}
use Rattle.commit_set.proofs.Answers.{fault_slots, fault_definitions}
use Rattle.commit_set.proofs.check.Goals as goal

pub returns-in_err-check : goal.returns-in_err-check
unfolding decision_fault
returns-in_err-check c = exit_else _ _ _ _ c.from_residual.ensures.1 c.in_err-check.ensures

pub returns-in_err-check_slots : goal.returns-in_err-check_slots
returns-in_err-check_slots c =
    exit_is _ _ _ c.from_residual-in_err-check_slots.ensures.1 (c.in_err-check_slots.ensures ∙ fault_slots _ _ _ (sym c.in_ok-check.ensures) (λ e. number_some _ (c.in_err-check_slots.ensures ∙ e)))

pub check_definitions-requires : goal.check_definitions-requires
check_definitions-requires c = let e = sym c.in_ok-check.ensures in record { places_sound = memory_places _ _ _ e; wires_bound = memory_wires _ _ _ e }

pub returns : goal.returns
returns c = c.check_definitions.ensures ∙ fault_definitions _ _ _ (sym c.in_ok-check.ensures) (sym c.in_ok-check_slots.ensures)
