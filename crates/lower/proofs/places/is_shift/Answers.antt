-- By what from_index answers. Assumes nothing.
use Rattle.std.proofs.Common.{◌≡◌, refl, ap, ◌∙◌, Bool, true, false, cond, Result, Ok, Err}
use Rattle.std.specs.Result.{is_ok}
use Rattle.refusal.specs.declared.Refusal.{Refusal}
use Rattle.refusal.specs.declared.Refusal.TheVariants as R
use Rattle.shift.specs.declared.Shift.{Shift}
use Rattle.shift.specs.Shifts.{valid_number, shift_at}
use Rattle.lower.proofs.places.is_shift.Goals as goal

pub returns : goal.returns
returns c = c.is_ok.ensures.value ∙ ap is_ok c.from_index.ensures.0 ∙ go (valid_number c.args.n) (shift_at c.args.n)
  where
    go : (b : Bool) (s : Shift) → is_ok (cond {A = Result Shift Refusal} b (Ok s) (Err R.Shift)) ≡ b
    go true s = refl
    go false s = refl
