-- Plain words about lists that the model is written with.
--
--   All P l         P holds of each element
--   some_of p l      the test passes at some element
--   keep p l        the elements that pass the test, in their order
--   joined ls       the lists one after the other
--   sum_of f l       the sum of what f gives at each element
--
-- Assumes nothing.
use Rattle.std.specs.Prelude.{ℕ, ◌+◌, Bool, false, cond, ◌||◌, List, [], ◌∷◌, ◌++◌}

pub data All {A : Type 0} (P : A → Type 0) : List A → Type 0 where
  done : All P []
  more : {x : A} {xs : List A} → P x → All P xs → All P (x ∷ xs)

abbrev pub some_of : {A : Type 0} → (A → Bool) → List A → Bool
some_of p [] = false
some_of p (x ∷ xs) = p x || some_of p xs

abbrev pub keep : {A : Type 0} → (A → Bool) → List A → List A
keep p [] = []
keep p (x ∷ xs) = cond (p x) (x ∷ keep p xs) (keep p xs)

abbrev pub joined : {A : Type 0} → List (List A) → List A
joined [] = []
joined (x ∷ xs) = x ++ joined xs

abbrev pub sum_of : {A : Type 0} → (A → ℕ) → List A → ℕ
sum_of f [] = 0
sum_of f (x ∷ xs) = f x + sum_of f xs
