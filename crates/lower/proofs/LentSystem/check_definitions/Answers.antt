-- 8, 9 and 10 in turn. Assumes nothing.
use Rattle.lower.proofs.Doubles.{twice_model, empty_model}
use Rattle.lower.proofs.Checks.{checked, dsts_small}
use Rattle.lower.specs.Faults.{definition_fault, repeated, length_of}
use Rattle.std.proofs.Common.{sym, ap, ◌∙◌, eqb}
use Rattle.std.specs.List.{list_any}
use Rattle.lower.proofs.LentSystem.check_definitions.Goals as goal

pub is_twice-requires : goal.is_twice-requires
is_twice-requires c = let y = checked _ _ c.requires.places_sound in rw c.destinations.ensures (dsts_small _ _ y c.requires.wires_bound)

pub returns-then-is_twice : goal.returns-then-is_twice
unfolding definition_fault
returns-then-is_twice c = let y = checked _ _ c.requires.places_sound in rw (twice_model _ _ y ∙ sym (c.is_twice.ensures ∙ ap repeated c.destinations.ensures) ∙ c.if-is_twice.true)

pub returns-then-has_empty : goal.returns-then-has_empty
unfolding definition_fault
returns-then-has_empty c = let y = checked _ _ c.requires.places_sound in rw (twice_model _ _ y ∙ sym (c.is_twice.ensures ∙ ap repeated c.destinations.ensures) ∙ c.if-is_twice.false, empty_model _ _ y ∙ sym (c.has_empty.ensures ∙ ap (list_any (λ h. eqb (length_of h) 0)) c.right_sides.ensures) ∙ c.if-has_empty.true)

pub returns-then-has_double : goal.returns-then-has_double
unfolding definition_fault
returns-then-has_double c = let y = checked _ _ c.requires.places_sound in rw (twice_model _ _ y ∙ sym (c.is_twice.ensures ∙ ap repeated c.destinations.ensures) ∙ c.if-is_twice.false, empty_model _ _ y ∙ sym (c.has_empty.ensures ∙ ap (list_any (λ h. eqb (length_of h) 0)) c.right_sides.ensures) ∙ c.if-has_empty.false, sym c.has_double.ensures ∙ c.if-has_double.true)

pub returns : goal.returns
unfolding definition_fault
returns c = let y = checked _ _ c.requires.places_sound in rw (twice_model _ _ y ∙ sym (c.is_twice.ensures ∙ ap repeated c.destinations.ensures) ∙ c.if-is_twice.false, empty_model _ _ y ∙ sym (c.has_empty.ensures ∙ ap (list_any (λ h. eqb (length_of h) 0)) c.right_sides.ensures) ∙ c.if-has_empty.false, sym c.has_double.ensures ∙ c.if-has_double.false)
