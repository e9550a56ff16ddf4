-- All starred examples (01, "Examples to hold"), as one list.
--
--   Example     a row on shifts, which stands in operand's list, or one on numbers of terms and uses
--   Holds       what the row says of the written meanings
--   examples    the rows of 01 in their order
--
-- Assumes nothing.
use Rattle.std.specs.Prelude.{◌≡◌, ℕ, ◌*◌, pred, Bool, true, false, List, [], ◌∷◌, ◌++◌, map, length}
use Rattle.shift.specs.declared.Shift.{Shift}
use Rattle.operand.specs.Examples as O
use Rattle.commit_set.specs.declared.CommitSetCx.{CommitSetCx}
use Rattle.commit_set.specs.Decision.{some_over, multiplies_out, commits}

pub data Example : Type 0 where
  shifts : O.Example → Example
  multiplies : ℕ → ℕ → ℕ → Bool → Example

-- of so many terms and uses, not one run, the product is n: whatever they are, this is or isn't a ground to commit; where it is, the
-- definition commits for any slots
abbrev pub Holds : Example → Type 0
Holds (shifts e) = O.Holds e
Holds (multiplies terms uses n is_ground) =
    (pred terms * pred uses ≡ n)
    × ((cs : List CommitSetCx) (ss : List Shift) → length ss ≡ terms → length cs ≡ uses → some_over 1 cs ss ≡ true
    → (multiplies_out cs ss ≡ is_ground) × (is_ground ≡ true → (slots : ℕ) → commits slots cs ss ≡ true))

-- "terms 3, uses 3, not one run: product 4, no commit on that ground. Terms 2, uses 6: 5, commit"
abbrev pub examples : List Example
examples = map shifts O.examples ++ (multiplies 3 3 4 false ∷ multiplies 2 6 5 true ∷ [])
