-- What is given back of a shift, and its number and values in 01's terms (01, "Shifts" and "Numbers given back").
--
--   applied, numbered, found, composed   what `apply`, `index`, `from_index` and `compose` answer: an invalid shift is refused, also where
--                                        an early answer would not look at it
--   told_number, told_found, told_composed  number and values of each case; a shift by its number
--   values                               the values of a composition: 0 and the shift's number for Single, 1 for Zero, 2 for Pair
--
-- Assumes nothing.
use Rattle.std.specs.Prelude.{ℕ, cond, ◌&&◌, List, [], ◌∷◌, Result, Ok, Err}
use Rattle.refusal.specs.declared.Refusal.{Refusal}
use Rattle.refusal.specs.declared.Refusal.TheVariants as R
use Rattle.word.specs.Answers.{Told, told_by}
use Rattle.shift.specs.declared.Shift.{Shift}
use Rattle.shift.specs.declared.Composition.{Composition}
use Rattle.shift.specs.declared.Composition.TheVariants.{Single, Zero, Pair}
use Rattle.shift.specs.Shifts.{valid, valid_number, number_of, shift_at, apply_of}
use Rattle.shift.specs.Compose.{compose_valid}

abbrev pub applied : Shift → ℕ → Result ℕ Refusal
applied s w = cond (valid s) (Ok (apply_of s w)) (Err R.Shift)

abbrev pub numbered : Shift → Result ℕ Refusal
numbered s = cond (valid s) (Ok (number_of s)) (Err R.Shift)

abbrev pub found : ℕ → Result Shift Refusal
found n = cond (valid_number n) (Ok (shift_at n)) (Err R.Shift)

abbrev pub composed : Shift → Shift → Result Composition Refusal
composed i o = cond (valid i && valid o) (Ok (compose_valid i o)) (Err R.Shift)

abbrev pub told_number : Result ℕ Refusal → Told
told_number = told_by (λ n. n ∷ [])

abbrev pub told_found : Result Shift Refusal → Told
told_found = told_by (λ s. number_of s ∷ [])

abbrev pub values : Composition → List ℕ
values (Single s) = 0 ∷ number_of s ∷ []
values Zero = 1 ∷ []
values Pair = 2 ∷ []

abbrev pub told_composed : Result Composition Refusal → Told
told_composed = told_by values
