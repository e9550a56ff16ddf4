-- The mask of the term's wire, under its shift. Assumes nothing.
use Rattle.shift.specs.Shifts.{valid_number, shift_at, apply_of}
use Rattle.shift.specs.declared.Shift.{Shift}
use lib.ListN.{get_or}
use Prim.Native.Nat.{ℕ}
use mathlib.Core.Path.{ap, ap₂, ◌∙◌}
use Rattle.reach.proofs.written.term_mask.Goals as goal

pub from_index-s-requires : goal.from_index-s-requires
from_index-s-requires c = ap valid_number c.inner.ensures ∙ c.requires.1

pub apply-requires : goal.apply-requires
apply-requires c = c.from_index-s.ensures.1

pub returns : goal.returns
returns c = c.apply.ensures ∙ ap₂ (λ (s : Shift) (x : ℕ). apply_of s x) (c.from_index-s.ensures.0 ∙ ap shift_at c.inner.ensures) (ap (λ (i : ℕ). get_or c.args.masks.now i 0) c.wire-w.ensures)
