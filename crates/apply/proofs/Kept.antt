-- What is kept of rows: one row more, and how much it is. Assumes nothing.
use mathlib.Core.Path.{◌≡◌, refl, sym, ap, ◌∙◌, subst}
use Prim.Native.Nat.{ℕ, zero, suc, ◌+◌, ◌*◌, ◌-◌, ◌≤◌, ◌<◌}
use mathlib.Core.Bool.{Bool, true, false, cond}
use mathlib.Core.List.{List, [], ◌∷◌, ◌++◌, append_assoc, append-nil}
use native.Mathlib.Omega.{arith}
use native.Mathlib.Nat.{mul-zero, mul-suc, mul-le-mul, le_refl}
use lib.ListN.{length, take, drop, length-append, length-take}
use lib.Seq.{sets, take-add, drop-drop}
use Rattle.lower.specs.Lists.{All, keep, joined}
use Rattle.lower.specs.Stores.{chunks}
use Rattle.lower.proofs.Laws.{all_left, all_right}
use Rattle.apply.specs.Applied.{only_if, kept_rows, rows_after, struck}
use Rattle.apply.proofs.Closing.{sets_next, drop_past}

pub all_part : (P : ℕ → Type 0) (a k m : ℕ) (l : List ℕ) → a + k ≤ m → All P (take m l) → All P (take k (drop a l))
all_part P a k m l h p =
    let e : m ≡ a + (k + (m - (a + k))) = omega (arith, h) in
    let q : take m l ≡ take a l ++ (take k (drop a l) ++ take (m - (a + k)) (drop k (drop a l)))
    = ap (λ (n : ℕ). take n l) e ∙ take-add a (k + (m - (a + k))) l ∙ ap (λ (r : List ℕ). take a l ++ r) (take-add k (m - (a + k)) (drop a l)) in
    all_left P (take k (drop a l)) (take (m - (a + k)) (drop k (drop a l))) (all_right P (take a l) (take k (drop a l) ++ take (m - (a + k)) (drop k (drop a l))) (subst (All P) q p))

-- the rows up to the i-th end before the n-th
pub rows_next : (k i n : ℕ) → i < n → k * i + k ≤ k * n
rows_next k i n h = let m = mul-suc k i in let q : k * suc i ≤ k * n = mul-le-mul (le_refl k) (omega (arith, h)) in omega (arith, m, q)

module _ (q : List ℕ → Bool) (k : ℕ) where
  pub kept_none : (hs : List ℕ) → kept_rows q k 0 hs ≡ []
  unfolding kept_rows
  kept_none hs = refl

  kept_first : (n : ℕ) (hs : List ℕ) → kept_rows q k (suc n) hs ≡ only_if (q (take k hs)) (take k hs) ++ kept_rows q k n (drop k hs)
  unfolding kept_rows
  kept_first n hs = go (q (take k hs))
    where
      go : (b : Bool) → joined (cond b (take k hs ∷ keep q (chunks k n (drop k hs))) (keep q (chunks k n (drop k hs)))) ≡ only_if b (take k hs) ++ joined (keep q (chunks k n (drop k hs)))
      go true = refl
      go false = refl

  only_short : (b : Bool) (r : List ℕ) → length r ≤ k → length (only_if b r) ≤ k
  only_short true r h = h
  only_short false r h = omega arith

  pub kept_long : (n : ℕ) (hs : List ℕ) → length (kept_rows q k n hs) ≤ k * n
  kept_long zero hs = rw (kept_none hs) (omega arith)
  kept_long (suc n) hs =
      let m = mul-suc k n in
      let h = kept_long n (drop k hs) in
      let p : length (take k hs) ≤ k = omega (arith, length-take k hs) in
      let o = only_short (q (take k hs)) (take k hs) p in
      let e = length-append (only_if (q (take k hs)) (take k hs)) (kept_rows q k n (drop k hs)) in
      rw (kept_first n hs) (omega (arith, m, h, o, e))

  pub kept_more : (i : ℕ) (hs : List ℕ) → kept_rows q k (i + 1) hs ≡ kept_rows q k i hs ++ only_if (q (take k (drop (k * i) hs))) (take k (drop (k * i) hs))
  kept_more zero hs = rw (mul-zero k, kept_first 0 hs, kept_none (drop k hs), kept_none hs, append-nil (only_if (q (take k hs)) (take k hs)))
  kept_more (suc i) hs =
      let e : drop (k * i) (drop k hs) ≡ drop (k * suc i) hs = (let z : k + k * i ≡ k * suc i = omega (arith, mul-suc k i) in drop-drop (k * i) k hs ∙ ap (λ (n : ℕ). drop n hs) z) in
      let s : suc i + 1 ≡ suc (i + 1) = omega arith in
      rw (s, kept_first (i + 1) hs, kept_first i hs, kept_more i (drop k hs), e)
      (sym (append_assoc (only_if (q (take k hs)) (take k hs)) (kept_rows q k i (drop k hs)) (only_if (q (take k (drop (k * suc i) hs))) (take k (drop (k * suc i) hs)))))

  -- one turn: hs is the list at the entry, at the place where the next row goes
  module _ (hs now now' : List ℕ) (i at from : ℕ) (e : now ≡ sets hs 0 (kept_rows q k i hs)) (a : at ≡ length (kept_rows q k i hs)) (f : from ≡ k * i) where
    pub row_there : take k (drop from now) ≡ take k (drop (k * i) hs)
    row_there = rw (f, e) (ap (take k) (drop_past hs 0 (k * i) (kept_rows q k i hs) (omega (arith, kept_long i hs))))

    pub kept_step : now' ≡ sets now at (only_if (q (take k (drop from now))) (take k (drop from now))) → now' ≡ sets hs 0 (kept_rows q k (i + 1) hs)
    kept_step h =
        h ∙ rw (row_there, e) (sets_next hs 0 at (kept_rows q k i hs) (only_if (q (take k (drop (k * i) hs))) (take k (drop (k * i) hs))) (omega (arith, a)))
        ∙ ap (sets hs 0) (sym (kept_more i hs))

    pub at_step : (r : ℕ) → r ≡ at + length (only_if (q (take k (drop from now))) (take k (drop from now))) → r ≡ length (kept_rows q k (i + 1) hs)
    at_step r h =
        let w = take k (drop (k * i) hs) in
        h ∙ rw (row_there, kept_more i hs) (omega (arith, a, length-append (kept_rows q k i hs) (only_if (q w) w)))

  -- what the struck rows leave is filled
  module _ (hs : List ℕ) (n at : ℕ) (a : at ≡ length (kept_rows q k n hs)) where
    pub struck-told : struck q k n hs ≡ k * n - at
    unfolding struck
    struck-told = rw a

    pub filled : (now now' es : List ℕ) → now ≡ sets hs 0 (kept_rows q k n hs) → now' ≡ sets now at (take (k * n - at) es) → now' ≡ sets hs 0 (rows_after q k n hs es)
    unfolding rows_after
    filled now now' es e h =
        h ∙ rw (e, a) (sets_next hs 0 (length (kept_rows q k n hs)) (kept_rows q k n hs) (take (k * n - length (kept_rows q k n hs)) es) (omega arith))
