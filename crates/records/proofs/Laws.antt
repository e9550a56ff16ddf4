-- Records and their numbers, one after the other. Assumes nothing.
use mathlib.Core.Path.{◌≡◌, refl, sym, ap, ◌∙◌}
use mathlib.Core.Logic.{◌⊎◌, inl, inr, ⊎_elim}
use Prim.Native.Nat.{ℕ, zero, suc, zero-le, suc-le-suc, ◌+◌, ◌≤◌, ◌<◌}
use native.Mathlib.Omega.{arith}
use native.Mathlib.Numerals.{add-one}
use mathlib.Core.List.{List, [], ◌∷◌, ◌++◌}
use lib.ListN.{length, get_or, set, take}
use lib.Seq.{sets, take-suc, length-take-le}
use Rattle.records.specs.Records.{unloaded, made, reloaded}
use Rattle.records.specs.declared.Definition.{Definition}

abbrev pub none : Definition
none = record { rhs = 0; dst = 0 }

sets_next : (A : Type 0) (l : List A) (n m : ℕ) (xs ys : List A) → m ≡ n + length xs → sets (sets l n xs) m ys ≡ sets l n (xs ++ ys)
sets_next A l n m [] ys e = ap (λ (i : ℕ). sets l i ys) (omega (arith, e))
sets_next A l n m (x ∷ xs) ys e = sets_next A (set l n x) (suc n) m xs ys (omega (arith, e))

-- ---- the first k numbers are there, and one more
module _ (l ns : List ℕ) where
  pub front_more : (k k' v : ℕ) → k < length ns → get_or ns k 0 ≡ v → k' ≡ k + 1 → set (unloaded l ns k) k v ≡ unloaded l ns k'
  front_more k k' v h e n =
      ap (set (unloaded l ns k) k) (sym e) ∙ sets_next ℕ l 0 k (take k ns) (get_or ns k 0 ∷ []) (omega (arith, length-take-le k ns (omega (arith, h))))
      ∙ ap (sets l 0) (sym (take-suc ns k 0 h) ∙ ap (λ (i : ℕ). take i ns) (sym (add-one k) ∙ sym n))

-- ---- the first k records are made, and one more
module _ (l : List Definition) (ds rs : List ℕ) where
  pub back_none : reloaded l ds rs 0 ≡ l
  unfolding made
  back_none = refl

abbrev nth : List ℕ → List ℕ → ℕ → Definition
nth ds rs k = record { rhs = get_or rs k 0; dst = get_or ds k 0 }

made-length : (ds rs : List ℕ) (k : ℕ) → k ≤ length ds → k ≤ length rs → length (made (take k ds) (take k rs)) ≡ k
unfolding made
made-length ds rs zero p q = refl
made-length [] rs (suc k) p q = absurd (omega (arith, p))
made-length (d ∷ ds) [] (suc k) p q = absurd (omega (arith, q))
made-length (d ∷ ds) (r ∷ rs) (suc k) p q = ap suc (made-length ds rs k (omega (arith, p)) (omega (arith, q)))

made-suc : (ds rs : List ℕ) (k : ℕ) → k < length ds → k < length rs → made (take (suc k) ds) (take (suc k) rs) ≡ made (take k ds) (take k rs) ++ (nth ds rs k ∷ [])
unfolding made
made-suc [] rs k p q = absurd (omega (arith, p))
made-suc (d ∷ ds) [] k p q = absurd (omega (arith, q))
made-suc (d ∷ ds) (r ∷ rs) zero p q = refl
made-suc (d ∷ ds) (r ∷ rs) (suc k) p q = ap (λ (l : List Definition). nth (d ∷ ds) (r ∷ rs) 0 ∷ l) (made-suc ds rs k (omega (arith, p)) (omega (arith, q)))

pub back_more : (l : List Definition) (ds rs : List ℕ) (k k' : ℕ) → k < length ds → k < length rs → k' ≡ k + 1 → set (reloaded l ds rs k) k (nth ds rs k) ≡ reloaded l ds rs k'
back_more l ds rs k k' p q n =
    sets_next Definition l 0 k (made (take k ds) (take k rs)) (nth ds rs k ∷ []) (omega (arith, made-length ds rs k (omega (arith, p)) (omega (arith, q))))
    ∙ ap (sets l 0) (sym (made-suc ds rs k p q) ∙ ap (λ (i : ℕ). made (take i ds) (take i rs)) (sym (add-one k) ∙ sym n))

-- ---- numbers
pub lt_or_le : (m n : ℕ) → (m < n) ⊎ (n ≤ m)
lt_or_le m zero = inr zero-le
lt_or_le zero (suc n) = inl (suc-le-suc zero-le)
lt_or_le (suc m) (suc n) = ⊎_elim (λ p. inl (suc-le-suc p)) (λ p. inr (suc-le-suc p)) (lt_or_le m n)
