-- Values stored one after the other, and list after list. Assumes nothing.
use mathlib.Core.Path.{◌≡◌, refl, sym, ap, ◌∙◌}
use Prim.Native.Nat.{ℕ, suc, ◌+◌, ◌<◌}
use native.Mathlib.Nat.{add-zero}
use native.Mathlib.Numerals.{add-one}
use native.Mathlib.Omega.{arith}
use mathlib.Core.List.{List, [], ◌∷◌, ◌++◌, append_assoc}
use lib.ListN.{length, take, get_or, set, length-map}
use lib.Seq.{sets, take-suc, length-take-le}
use Rattle.lower.proofs.Laws.{map-join}
use Rattle.evaluate.specs.Steps.{value_at, values_at}

sets-append : (l : List ℕ) (i : ℕ) (xs ys : List ℕ) → sets l i (xs ++ ys) ≡ sets (sets l i xs) (i + length xs) ys
sets-append l i [] ys = ap (λ (k : ℕ). sets l k ys) (sym (add-zero i))
sets-append l i (x ∷ xs) ys =
    let e : suc i + length xs ≡ i + suc (length xs) = omega arith in
    sets-append (set l i x) (suc i) xs ys ∙ ap (λ (k : ℕ). sets (sets (set l i x) (suc i) xs) k ys) e

sets_two : (l : List ℕ) (p q : ℕ) (xs ys : List ℕ) → q ≡ p + length xs → sets l p (xs ++ ys) ≡ sets (sets l p xs) q ys
sets_two l p q xs ys e = sets-append l p xs ys ∙ ap (λ (k : ℕ). sets (sets l p xs) k ys) (sym e)

module _ (old new ws : List ℕ) where
  values_length : (hs : List ℕ) → length (values_at old new ws hs) ≡ length hs
  unfolding values_at
  values_length hs = length-map hs (value_at old new ws)

  values-append : (a b : List ℕ) → values_at old new ws (a ++ b) ≡ values_at old new ws a ++ values_at old new ws b
  unfolding values_at
  values-append a b = map-join (value_at old new ws) a b

  pub values-none : (l : List ℕ) (at : ℕ) (hs : List ℕ) → l ≡ sets l at (values_at old new ws (take 0 hs))
  unfolding values_at
  values-none l at hs = refl

  -- the first i, and one more
  module _ (hs : List ℕ) (i : ℕ) (h : i < length hs) where
    values-more : values_at old new ws (take (i + 1) hs) ≡ values_at old new ws (take i hs) ++ (value_at old new ws (get_or hs i 0) ∷ [])
    unfolding values_at
    values-more = rw (add-one, take-suc hs i 0 h) (map-join (value_at old new ws) (take i hs) (get_or hs i 0 ∷ []))

    pub values_step : (l : List ℕ) (at v : ℕ) → v ≡ value_at old new ws (get_or hs i 0) → set (sets l at (values_at old new ws (take i hs))) (at + i) v ≡ sets l at (values_at old new ws (take (i + 1) hs))
    values_step l at v e =
        let f = values_length (take i hs) ∙ length-take-le i hs (omega arith) in
        rw e
        (sym
        (ap (sets l at) values-more
        ∙ sets_two l at (at + i) (values_at old new ws (take i hs)) (value_at old new ws (get_or hs i 0) ∷ []) (omega (arith, f))))

  -- the five lists, each after the one before it
  module _ (a i b o d : List ℕ) where
    apart : values_at old new ws ((a ++ (i ++ (b ++ o))) ++ d)
        ≡ values_at old new ws a ++ (values_at old new ws i ++ (values_at old new ws b ++ (values_at old new ws o ++ values_at old new ws d)))
    apart =
        values-append (a ++ (i ++ (b ++ o))) d
        ∙ rw (
          values-append a (i ++ (b ++ o)),
          values-append i (b ++ o),
          values-append b o,
          append_assoc (values_at old new ws a) (values_at old new ws i ++ (values_at old new ws b ++ values_at old new ws o)) (values_at old new ws d),
          append_assoc (values_at old new ws i) (values_at old new ws b ++ values_at old new ws o) (values_at old new ws d),
          append_assoc (values_at old new ws b) (values_at old new ws o) (values_at old new ws d),
        )

    pub lists_stored : (l l₁ l₂ l₃ l₄ l₅ : List ℕ) (p₁ p₂ p₃ p₄ : ℕ) → p₁ ≡ 0 + length a → p₂ ≡ p₁ + length i → p₃ ≡ p₂ + length b → p₄ ≡ p₃ + length o
        → l₁ ≡ sets l 0 (values_at old new ws a) → l₂ ≡ sets l₁ p₁ (values_at old new ws i) → l₃ ≡ sets l₂ p₂ (values_at old new ws b)
        → l₄ ≡ sets l₃ p₃ (values_at old new ws o) → l₅ ≡ sets l₄ p₄ (values_at old new ws d)
        → l₅ ≡ sets l 0 (values_at old new ws ((a ++ (i ++ (b ++ o))) ++ d))
    lists_stored l l₁ l₂ l₃ l₄ l₅ p₁ p₂ p₃ p₄ e₁ e₂ e₃ e₄ k₁ k₂ k₃ k₄ k₅ =
        let vd : List ℕ = values_at old new ws d in
        let vo : List ℕ = values_at old new ws o ++ vd in
        let vb : List ℕ = values_at old new ws b ++ vo in
        let vi : List ℕ = values_at old new ws i ++ vb in
        sym
        (ap (sets l 0) apart
        ∙ sets_two l 0 p₁ (values_at old new ws a) vi (omega (arith, e₁, values_length a))
        ∙ ap (λ (t : List ℕ). sets t p₁ vi) (sym k₁)
        ∙ sets_two l₁ p₁ p₂ (values_at old new ws i) vb (omega (arith, e₂, values_length i))
        ∙ ap (λ (t : List ℕ). sets t p₂ vb) (sym k₂)
        ∙ sets_two l₂ p₂ p₃ (values_at old new ws b) vo (omega (arith, e₃, values_length b))
        ∙ ap (λ (t : List ℕ). sets t p₃ vo) (sym k₃)
        ∙ sets_two l₃ p₃ p₄ (values_at old new ws o) vd (omega (arith, e₄, values_length o))
        ∙ ap (λ (t : List ℕ). sets t p₄ vd) (sym k₄)
        ∙ sym k₅)
