-- What is given back, in 01's terms (01, "Numbers given back").
--
--   Told            a refusal by its number in the table, that of a reader with the offset of its field too, or an answer by its values
--   SHIFT           4, "invalid shift number"
--   checked b vs    the values vs where the shifts handed in are valid, else the refusal 4
--   told_by vs a    the number of a refusal, or the values vs of what is answered
--   told            the same where a word is answered
--   below k n x     what a shift of width k answers to the amount n, where x is the shifted word
--   Answers         that an answer is this, by its case and by its number
--
-- Assumes nothing.
use Rattle.std.specs.Prelude.{ℕ, ◌≡◌, Bool, cond, List, [], ◌∷◌, ltb, Result, Ok, Err}
use Rattle.refusal.specs.declared.Refusal.{Refusal}
use Rattle.refusal.specs.declared.Refusal.TheVariants.{Shift}
use Rattle.refusal.specs.Refusals.{number_of}

pub data Told : Type 0 where
  refused : ℕ → Told
  refused_at : ℕ → ℕ → Told
  given : List ℕ → Told

abbrev pub SHIFT : ℕ
SHIFT = 4

-- "Handed an invalid shift .. answer 4"
abbrev pub checked : Bool → List ℕ → Told
checked b vs = cond b (given vs) (refused SHIFT)

abbrev pub told_by : {A : Type 0} → (A → List ℕ) → Result A Refusal → Told
told_by vs (Ok a) = given (vs a)
told_by vs (Err r) = refused (number_of r)

abbrev pub told : Result ℕ Refusal → Told
told = told_by (λ w. w ∷ [])

-- "A shift is valid if its amount is below its width": what a shift of width k answers to the amount n, x being the shifted word
abbrev pub below : ℕ → ℕ → ℕ → Result ℕ Refusal
below k n x = cond (ltb n k) (Ok x) (Err Shift)

-- the same, case and number
pub record Answers (k n x : ℕ) (r : Result ℕ Refusal) : Type 0 where
  pub is : r ≡ below k n x
  pub tells : told r ≡ checked (ltb n k) (x ∷ [])
