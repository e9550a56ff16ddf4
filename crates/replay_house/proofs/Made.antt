-- Loops that make a store, and that find a field. Assumes nothing.
use Rattle.std.proofs.Common.{◌≡◌, ℕ, zero, suc, ◌+◌, ◌-◌, ◌<◌, ◌≤◌, Bool, true, false, ◌&&◌, eqb, List, [], ◌∷◌, ◌++◌, length, get_or, drop, set, refl, ap, ◌∙◌, append-nil, not-suc-le-zero, sub-one, arith, drop_of_length-le, le-ltb, lt-ltb, eq-eqb, ne_eqb}
use lib.Seq.{sets, sets-eq}
use Rattle.lower.proofs.Firsts.{drop_step}
use Rattle.replay_house.specs.Replay.{made_from, cut_from}
use Rattle.house_file.specs.Decoding.{field_end}

-- ---- a store that is made

module _ (f : ℕ → ℕ) where
  made-length : (i n : ℕ) → length (made_from f i n) ≡ n
  unfolding made_from
  made-length i zero = refl
  made-length i (suc n) = ap suc (made-length (i + 1) n)

  pub sets-made : (l : List ℕ) (i n : ℕ) → 0 < n → sets l i (made_from f i n) ≡ sets (set l i (f i)) (i + 1) (made_from f (i + 1) (n - 1))
  unfolding made_from
  sets-made l i zero h = absurd (not-suc-le-zero h)
  sets-made l i (suc n) h = let e : suc i ≡ i + 1 = omega arith in rw (sub-one (suc n)) (ap (λ (k : ℕ). sets (set l i (f i)) k (made_from f (i + 1) n)) e)

  pub sets-none-made : (l : List ℕ) (i n : ℕ) → n ≡ 0 → sets l i (made_from f i n) ≡ l
  unfolding made_from
  sets-none-made l i n e = rw e

  -- the whole store is overwritten
  pub sets_all : (l : List ℕ) → sets l 0 (made_from f 0 (length l)) ≡ made_from f 0 (length l)
  sets_all l =
      let n = length l in
      let e = made-length 0 n in
      let fits : 0 + length (made_from f 0 n) ≤ length l = omega (arith, e) in
      let end : length l ≤ 0 + length (made_from f 0 n) = omega (arith, e) in
      sets-eq (made_from f 0 n) l 0 fits ∙ ap (λ (r : List ℕ). made_from f 0 n ++ r) (drop_of_length-le l {i = 0 + length (made_from f 0 n)} end) ∙ append-nil (made_from f 0 n)

pub made_first : (f : ℕ → ℕ) (l : List ℕ) → sets l 0 (made_from f 0 (length l)) ≡ sets l 0 (made_from f 0 (length l - 0))
made_first f l = let e : length l ≡ length l - 0 = omega arith in ap (λ (n : ℕ). sets l 0 (made_from f 0 n)) e

pub made_less : (n i : ℕ) → n - i - 1 ≡ n - (i + 1)
made_less n i = omega arith

-- ---- a file cut

-- what is left after i of k turns
module _ (file : List ℕ) (end at k i : ℕ) (h : i < k) where
  one_more : k - i ≡ suc (k - (i + 1))
  one_more = omega arith

  pub cut_head : end < at + 3 → cut_from file end (k - i) at ≡ at
  unfolding cut_from
  cut_head l = rw (one_more, lt-ltb end (at + 3) l)

  pub cut_here : at + 3 ≤ end → end < field_end file at → cut_from file end (k - i) at ≡ at
  unfolding cut_from
  cut_here l m = rw (one_more, le-ltb end (at + 3) l, lt-ltb end (field_end file at) m)

  pub cut_on : at + 3 ≤ end → field_end file at ≤ end → cut_from file end (k - i) at ≡ cut_from file end (k - (i + 1)) (field_end file at)
  unfolding cut_from
  cut_on l m = rw (one_more, le-ltb end (at + 3) l, le-ltb end (field_end file at) m)

pub cut_end : (file : List ℕ) (end at k : ℕ) → k ≡ 0 → cut_from file end k at ≡ at
unfolding cut_from
cut_end file end at k e = rw e
