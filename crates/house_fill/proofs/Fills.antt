-- Laws of filling: a run of stores in two parts, and one more term, operand or entry. Assumes nothing.
use mathlib.Core.Path.{◌≡◌, refl, sym, ap, ◌∙◌}
use mathlib.Core.Bool.{Bool, true, false}
use mathlib.Core.List.{List, [], ◌∷◌, ◌++◌, map}
use Prim.Native.Nat.{ℕ, zero, suc, ◌+◌, ◌-◌, ◌<◌}
use native.Mathlib.Nat.{add-zero}
use native.Mathlib.Omega.{arith}
use lib.ListN.{length, get_or, set, length-append, length-map}
use lib.Seq.{sets}
use lib.Dec.{eqb}
use borrow.Author.Tests.{eq-eqb, ne_eqb}
use Rattle.operand.specs.Numbers.{term_number}
use Rattle.house_file.specs.Format.{LINEAR, arity}
use Rattle.house_file.specs.Decoding.{u16_at, term_at, terms_at, operand_next, operands_at, operands_terms, field_end, operands_start, entry_at, entries_at}
use Rattle.house_fill.specs.Layout.{terms_count, operands_laid, terms_laid, number_from, numbers_from, shown, list_laid, destinations_laid}

pub sets-append : (l : List ℕ) (i : ℕ) (xs ys : List ℕ) → sets l i (xs ++ ys) ≡ sets (sets l i xs) (i + length xs) ys
sets-append l i [] ys = ap (λ (k : ℕ). sets l k ys) (sym (add-zero i))
sets-append l i (x ∷ xs) ys =
    let e : suc i + length xs ≡ i + suc (length xs) = omega arith in
    sets-append (set l i x) (suc i) xs ys ∙ ap (λ (k : ℕ). sets (sets (set l i x) (suc i) xs) k ys) e

-- ---- terms
module _ (s : List ℕ) where
  pub terms_length : (n at : ℕ) → length (terms_at s n at) ≡ n
  unfolding terms_at
  terms_length zero at = refl
  terms_length (suc n) at = ap suc (terms_length n (at + 6))

  pub numbers_length : (n at : ℕ) → length (map term_number (terms_at s n at)) ≡ n
  numbers_length n at = length-map (terms_at s n at) term_number ∙ terms_length n at

  pub sets_terms : (l : List ℕ) (q n i at : ℕ) → i < n
      → sets l q (map term_number (terms_at s (n - i) at)) ≡ sets (set l q (term_number (term_at s at))) (q + 1) (map term_number (terms_at s (n - (i + 1)) (at + 6)))
  unfolding terms_at
  sets_terms l q n i at h =
      let one_more : n - i ≡ suc (n - (i + 1)) = omega arith in
      let e : q + 1 ≡ suc q = omega arith in
      rw (one_more, e)

  pub sets_no_terms : (l : List ℕ) (q at : ℕ) → sets l q (map term_number (terms_at s 0 at)) ≡ l
  unfolding terms_at
  sets_no_terms l q at = refl

-- ---- operands
module _ (s : List ℕ) where
  pub count_operands : (k at : ℕ) → terms_count (operands_at s k at) ≡ operands_terms s k at
  unfolding operands_at operands_terms terms_count
  count_operands zero at = refl
  count_operands (suc k) at = rw (terms_length s (u16_at s at) (at + 2), count_operands k (operand_next s at))

  pub operands_length : (k at : ℕ) → length (operands_laid (operands_at s k at)) ≡ operands_terms s k at
  unfolding operands_at operands_laid operands_terms
  operands_length zero at = refl
  operands_length (suc k) at =
      length-append (map term_number (terms_at s (u16_at s at) (at + 2))) (operands_laid (operands_at s k (operand_next s at)))
      ∙ rw (numbers_length s (u16_at s at) (at + 2), operands_length k (operand_next s at))

  pub sets_operands : (l : List ℕ) (q k i at : ℕ) → i < k
      → sets l q (operands_laid (operands_at s (k - i) at))
      ≡ sets (sets l q (map term_number (terms_at s (u16_at s at) (at + 2)))) (q + u16_at s at) (operands_laid (operands_at s (k - (i + 1)) (operand_next s at)))
  unfolding operands_at operands_laid
  sets_operands l q k i at h =
      let one_more : k - i ≡ suc (k - (i + 1)) = omega arith in
      ap (λ (m : ℕ). sets l q (operands_laid (operands_at s m at))) one_more
      ∙ sets-append l q (map term_number (terms_at s (u16_at s at) (at + 2))) (operands_laid (operands_at s (k - (i + 1)) (operand_next s at)))
      ∙ rw (numbers_length s (u16_at s at) (at + 2))

  pub sets_no_operands : (l : List ℕ) (q at : ℕ) → sets l q (operands_laid (operands_at s 0 at)) ≡ l
  unfolding operands_at operands_laid
  sets_no_operands l q at = refl

  pub views_length : (k at t : ℕ) → length (numbers_from t (operands_at s k at)) ≡ k
  unfolding operands_at numbers_from
  views_length zero at t = refl
  views_length (suc k) at t = ap suc (views_length k (operand_next s at) (t + length (terms_at s (u16_at s at) (at + 2))))

  pub sets_views : (l : List ℕ) (q k i at t : ℕ) → i < k
      → sets l q (numbers_from t (operands_at s (k - i) at))
      ≡ sets (set l q (number_from t (u16_at s at))) (q + 1) (numbers_from (t + u16_at s at) (operands_at s (k - (i + 1)) (operand_next s at)))
  unfolding operands_at numbers_from
  sets_views l q k i at t h =
      let one_more : k - i ≡ suc (k - (i + 1)) = omega arith in
      let e : q + 1 ≡ suc q = omega arith in
      rw (one_more, e, terms_length s (u16_at s at) (at + 2))

  pub sets_no_views : (l : List ℕ) (q at t : ℕ) → sets l q (numbers_from t (operands_at s 0 at)) ≡ l
  unfolding operands_at numbers_from
  sets_no_views l q at t = refl

module _ (s : List ℕ) (at : ℕ) where
  pub sum_step : (n i : ℕ) → i < n → operands_terms s (n - i) at ≡ u16_at s at + operands_terms s (n - (i + 1)) (operand_next s at)
  unfolding operands_terms
  sum_step n i h = let one_more : n - i ≡ suc (n - (i + 1)) = omega arith in rw one_more

  pub sum-none : operands_terms s 0 at ≡ 0
  unfolding operands_terms
  sum-none = refl

-- ---- entries
abbrev pub start_of : List ℕ → ℕ → ℕ
start_of s at = operands_start (get_or s at 0) (at + 3)

abbrev pub arity_of : List ℕ → ℕ → ℕ
arity_of s at = arity (get_or s at 0)

module _ (s : List ℕ) where
  pub sets_entries : (l : List ℕ) (q n i at : ℕ) → i < n
      → sets l q (terms_laid (entries_at s (n - i) at))
      ≡ sets (sets l q (operands_laid (operands_at s (arity_of s at) (start_of s at)))) (q + operands_terms s (arity_of s at) (start_of s at)) (terms_laid (entries_at s (n - (i + 1)) (field_end s at)))
  unfolding entries_at entry_at terms_laid
  sets_entries l q n i at h =
      let one_more : n - i ≡ suc (n - (i + 1)) = omega arith in
      ap (λ (m : ℕ). sets l q (terms_laid (entries_at s m at))) one_more
      ∙ sets-append l q (operands_laid (operands_at s (arity_of s at) (start_of s at))) (terms_laid (entries_at s (n - (i + 1)) (field_end s at)))
      ∙ rw (operands_length s (arity_of s at) (start_of s at))

  pub sets_no_entries : (l : List ℕ) (q at : ℕ) → sets l q (terms_laid (entries_at s 0 at)) ≡ l
  unfolding entries_at terms_laid
  sets_no_entries l q at = refl

  pub sets_list : (l : List ℕ) (q kind t n i at : ℕ) → i < n
      → sets l q (list_laid kind t (entries_at s (n - i) at))
      ≡ sets (sets l q (shown kind t (entry_at s at))) (q + length (shown kind t (entry_at s at))) (list_laid kind (t + operands_terms s (arity_of s at) (start_of s at)) (entries_at s (n - (i + 1)) (field_end s at)))
  unfolding entries_at entry_at list_laid
  sets_list l q kind t n i at h =
      let one_more : n - i ≡ suc (n - (i + 1)) = omega arith in
      ap (λ (m : ℕ). sets l q (list_laid kind t (entries_at s m at))) one_more
      ∙ sets-append l q (shown kind t (entry_at s at)) _
      ∙ rw (count_operands s (arity_of s at) (start_of s at))

  pub sets_no_list : (l : List ℕ) (q kind t at : ℕ) → sets l q (list_laid kind t (entries_at s 0 at)) ≡ l
  unfolding entries_at list_laid
  sets_no_list l q kind t at = refl

  -- the destinations, one field before the others
  destinations-by : (n at : ℕ) → destinations_laid (entries_at s (suc n) at) ≡ destinations_laid (entries_at s 1 at) ++ destinations_laid (entries_at s n (field_end s at))
  unfolding entries_at destinations_laid
  destinations-by n at = go (eqb (entry_at s at).tag LINEAR) refl
    where
      go : (b : Bool) → eqb (entry_at s at).tag LINEAR ≡ b → destinations_laid (entries_at s (suc n) at) ≡ destinations_laid (entries_at s 1 at) ++ destinations_laid (entries_at s n (field_end s at))
      go true e = simp e
      go false e = simp e

  pub sets-destinations : (l : List ℕ) (q n i at : ℕ) → i < n
      → sets l q (destinations_laid (entries_at s (n - i) at))
      ≡ sets (sets l q (destinations_laid (entries_at s 1 at))) (q + length (destinations_laid (entries_at s 1 at))) (destinations_laid (entries_at s (n - (i + 1)) (field_end s at)))
  sets-destinations l q n i at h =
      let one_more : n - i ≡ suc (n - (i + 1)) = omega arith in
      ap (λ (m : ℕ). sets l q (destinations_laid (entries_at s m at))) one_more
      ∙ ap (sets l q) (destinations-by (n - (i + 1)) at)
      ∙ sets-append l q (destinations_laid (entries_at s 1 at)) _

  pub sets_no_destinations : (l : List ℕ) (q at : ℕ) → sets l q (destinations_laid (entries_at s 0 at)) ≡ l
  unfolding entries_at destinations_laid
  sets_no_destinations l q at = refl

  pub destination_other : (at : ℕ) → (get_or s at 0 ≡ LINEAR → ⊥) → destinations_laid (entries_at s 1 at) ≡ []
  unfolding entries_at entry_at destinations_laid
  destination_other at e = simp (ne_eqb _ _ e)

  pub destination_linear : (at : ℕ) → get_or s at 0 ≡ LINEAR → destinations_laid (entries_at s 1 at) ≡ u16_at s (at + 3) ∷ []
  unfolding entries_at entry_at destinations_laid
  destination_linear at e = simp (eq-eqb _ _ e)

-- ---- what an entry adds to a list
module _ (s : List ℕ) (kind t at : ℕ) where
  pub entry_terms : terms_count (entry_at s at).operands ≡ operands_terms s (arity_of s at) (start_of s at)
  unfolding entry_at
  entry_terms = count_operands s (arity_of s at) (start_of s at)

  pub shown_other : (get_or s at 0 ≡ kind → ⊥) → shown kind t (entry_at s at) ≡ []
  unfolding entry_at shown
  shown_other e = simp (ne_eqb _ _ e)

  pub shown-same : get_or s at 0 ≡ kind → shown kind t (entry_at s at) ≡ numbers_from t (operands_at s (arity_of s at) (start_of s at))
  unfolding entry_at shown
  shown-same e = simp (eq-eqb _ _ e)
