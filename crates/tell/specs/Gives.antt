-- A number given back (01, "Numbers given back"), and values in a lent slice.
--
--   number t           0 for an answer, the table's number for a refusal
--   laid vs t          the lent values vs afterwards: an answer's values from their front on, as far as they reach; as they were on a refusal
--   Gives t vs r vs'   the number r and the lent values, vs before and vs' after, are those of t
--   laid_read           the lent values after reading: on a refusal the offset stands first; GivesRead, these and the number
--
-- `sets l i xs` is the list l with xs stored from place i on; what would stand past its end is dropped.
--
-- Assumes nothing.
use Rattle.std.specs.Prelude.{◌≡◌, ℕ, List, [], ◌∷◌, Result, Ok, Err}
use Rattle.std.proofs.lemmas.List.Edits.{sets}
use Rattle.word.specs.Answers.{Told, given, refused, refused_at}
use Rattle.house_file.specs.Reading.{told_read}
use Rattle.house_file.specs.declared.FileFault.{FileFault}
use Rattle.house_file.specs.declared.FileRead.{FileRead}

abbrev pub number : Told → ℕ
number (given xs) = 0
number (refused n) = n
number (refused_at n at) = n

abbrev pub laid : List ℕ → Told → List ℕ
laid vs (given xs) = sets vs 0 xs
laid vs (refused n) = vs
laid vs (refused_at n at) = vs

pub record Gives (t : Told) (vs : List ℕ) (r : ℕ) (vs' : List ℕ) : Type 0 where
  pub number_is : r ≡ number t
  pub values_are : vs' ≡ laid vs t

-- "with the offset of its field's tag"
abbrev pub laid_read : List ℕ → Result FileRead FileFault → List ℕ
laid_read vs (Ok r) = laid vs (told_read (Ok r))
laid_read vs (Err f) = sets vs 0 (f.at ∷ [])

pub record GivesRead (a : Result FileRead FileFault) (vs : List ℕ) (r : ℕ) (vs' : List ℕ) : Type 0 where
  pub number_is : r ≡ number (told_read a)
  pub values_are : vs' ≡ laid_read vs a
