-- Definitions that are kept and added, and flags: one turn of each. Assumes nothing.
use mathlib.Core.Path.{◌≡◌, refl, sym, ap, ap₂, ◌∙◌}
use Prim.Native.Nat.{ℕ, suc, ◌+◌, ◌-◌, ◌≤◌, ◌<◌}
use mathlib.Core.Bool.{Bool, true, false, cond, not, ◌&&◌}
use mathlib.Core.List.{List, [], ◌∷◌, ◌++◌}
use native.Mathlib.Omega.{arith}
use native.Mathlib.Numerals.{add-one}
use lib.Dec.{eqb}
use lib.ListN.{length, get_or, set, take, drop, length-append}
use lib.Seq.{sets, take-suc, drop-cons, length-take-le}
use borrow.Author.Tests.{ne_eqb}
use Rattle.apply.specs.Applied.{only_if, keep_from, is_committed, committed_wires, flags_from}
use Rattle.apply.proofs.Closing.{sets_next, get_past}

only_both : (b : Bool) (x : ℕ) (l : List ℕ) → only_if b (x ∷ []) ++ l ≡ cond b (x ∷ l) l
only_both true x l = refl
only_both false x l = refl

only_long : (b : Bool) (x y : ℕ) → length (only_if b (x ∷ [])) ≡ length (only_if b (y ∷ []))
only_long true x y = refl
only_long false x y = refl

pub one_there : (b : Bool) (x p n : ℕ) → b ≡ true → p + length (only_if b (x ∷ [])) ≤ n → p < n
one_there b x p n e h = let z : length (only_if b (x ∷ [])) ≡ 1 = rw e in omega (arith, h, z)

-- ---- definitions that stay

pub stranded_no : (a b : ℕ) → a ≡ 0 → false ≡ not (eqb a 0) && eqb b 0
stranded_no a b e = rw e

pub stranded_yes : (a b : ℕ) → (a ≡ 0 → ⊥) → eqb b 0 ≡ not (eqb a 0) && eqb b 0
stranded_yes a b h = rw (ne_eqb a 0 h)

module _ (q : ℕ → Bool) where
  keep-more : (j : ℕ) (xs : List ℕ) (y : ℕ) → keep_from q j (xs ++ (y ∷ [])) ≡ keep_from q j xs ++ only_if (q (j + length xs)) (y ∷ [])
  unfolding keep_from
  keep-more j [] y = let e : j + 0 ≡ j = omega arith in rw e
  keep-more j (x ∷ xs) y = let e : j + suc (length xs) ≡ suc j + length xs = omega arith in rw (e, keep-more (suc j) xs y) (go (q j))
    where
      go : (b : Bool) → cond b (x ∷ (keep_from q (suc j) xs ++ only_if (q (suc j + length xs)) (y ∷ []))) (keep_from q (suc j) xs ++ only_if (q (suc j + length xs)) (y ∷ []))
          ≡ cond b (x ∷ keep_from q (suc j) xs) (keep_from q (suc j) xs) ++ only_if (q (suc j + length xs)) (y ∷ [])
      go true = refl
      go false = refl

  keep_short : (j : ℕ) (xs : List ℕ) → length (keep_from q j xs) ≤ length xs
  unfolding keep_from
  keep_short j [] = omega arith
  keep_short j (x ∷ xs) = go (q j) (keep_short (suc j) xs)
    where
      go : (b : Bool) → length (keep_from q (suc j) xs) ≤ length xs → length (cond b (x ∷ keep_from q (suc j) xs) (keep_from q (suc j) xs)) ≤ suc (length xs)
      go true h = omega (arith, h)
      go false h = omega (arith, h)

  pub keep-none : (l : List ℕ) → keep_from q 0 (take 0 l) ≡ []
  unfolding keep_from
  keep-none l = refl

  -- one turn; l is the list at the entry, at the place where the next one goes
  module _ (l : List ℕ) (i at : ℕ) (h : i < length l) (a : at ≡ length (keep_from q 0 (take i l))) where
    long : length (take i l) ≡ i
    long = length-take-le i l (omega (arith, h))

    pub keep_low : at ≤ i
    keep_low = omega (arith, a, long, keep_short 0 (take i l))

    keep_next : keep_from q 0 (take (i + 1) l) ≡ keep_from q 0 (take i l) ++ only_if (q i) (get_or l i 0 ∷ [])
    keep_next =
        let e : 0 + length (take i l) ≡ i = omega (arith, long) in
        ap (keep_from q 0) (rw (add-one) (take-suc l i 0 h)) ∙ keep-more 0 (take i l) (get_or l i 0) ∙ ap (λ (n : ℕ). keep_from q 0 (take i l) ++ only_if (q n) (get_or l i 0 ∷ [])) e

    pub keep_step : (now now' : List ℕ) → now ≡ sets l 0 (keep_from q 0 (take i l)) → now' ≡ sets now at (only_if (q i) (get_or now i 0 ∷ []))
        → now' ≡ sets l 0 (keep_from q 0 (take (i + 1) l))
    keep_step now now' e s =
        let g : get_or (sets l 0 (keep_from q 0 (take i l))) i 0 ≡ get_or l i 0 = get_past l 0 i (keep_from q 0 (take i l)) (omega (arith, long, keep_short 0 (take i l))) in
        s ∙ rw (e, g) (sets_next l 0 at (keep_from q 0 (take i l)) (only_if (q i) (get_or l i 0 ∷ [])) (omega (arith, a))) ∙ ap (sets l 0) (sym keep_next)

    pub keep_count : (r x : ℕ) → r ≡ at + length (only_if (q i) (x ∷ [])) → r ≡ length (keep_from q 0 (take (i + 1) l))
    keep_count r x e =
        let n : length (keep_from q 0 (take (i + 1) l)) ≡ length (keep_from q 0 (take i l)) + length (only_if (q i) (get_or l i 0 ∷ []))
        = ap length keep_next ∙ length-append (keep_from q 0 (take i l)) (only_if (q i) (get_or l i 0 ∷ [])) in
        omega (arith, e, n, a, only_long (q i) x (get_or l i 0))

-- ---- definitions that are added

module _ (table decisions : List ℕ) where
  pub wires_none : (w wires : ℕ) → wires ≤ w → committed_wires table decisions w (wires - w) ≡ []
  unfolding committed_wires
  wires_none w wires h = let e : wires - w ≡ 0 = omega (arith, h) in rw e

  wires_first : (w n : ℕ) → committed_wires table decisions w (suc n) ≡ only_if (is_committed decisions (get_or table w 0)) (w ∷ []) ++ committed_wires table decisions (suc w) n
  unfolding committed_wires
  wires_first w n = sym (only_both (is_committed decisions (get_or table w 0)) w (committed_wires table decisions (suc w) n))

  pub flags_none : (w wires : ℕ) → wires ≤ w → flags_from table decisions w (wires - w) ≡ []
  unfolding flags_from
  flags_none w wires h = let e : wires - w ≡ 0 = omega (arith, h) in rw e

  flags_first : (w n : ℕ) → flags_from table decisions w (suc n) ≡ cond (is_committed decisions (get_or table w 0)) 1 0 ∷ flags_from table decisions (suc w) n
  unfolding flags_from
  flags_first w n = refl

  -- one turn: the wires from w on are left
  module _ (w wires : ℕ) (h : w < wires) where
    back : wires - w ≡ suc (wires - (w + 1))
    back = omega (arith, h)

    pub wires_step : committed_wires table decisions w (wires - w) ≡ only_if (is_committed decisions (get_or table w 0)) (w ∷ []) ++ committed_wires table decisions (w + 1) (wires - (w + 1))
    wires_step = rw (back, wires_first w (wires - (w + 1)), add-one)

    pub wires_count : length (committed_wires table decisions w (wires - w))
        ≡ length (only_if (is_committed decisions (get_or table w 0)) (w ∷ [])) + length (committed_wires table decisions (w + 1) (wires - (w + 1)))
    wires_count = ap length wires_step ∙ length-append (only_if (is_committed decisions (get_or table w 0)) (w ∷ [])) (committed_wires table decisions (w + 1) (wires - (w + 1)))

    flags_more : flags_from table decisions w (wires - w) ≡ cond (is_committed decisions (get_or table w 0)) 1 0 ∷ flags_from table decisions (w + 1) (wires - (w + 1))
    flags_more = rw (back, flags_first w (wires - (w + 1)), add-one)

    pub flags_step : (l : List ℕ) (v : ℕ) → v ≡ cond (is_committed decisions (get_or table w 0)) 1 0
        → sets (set l w v) (w + 1) (flags_from table decisions (w + 1) (wires - (w + 1))) ≡ sets l w (flags_from table decisions w (wires - w))
    flags_step l v e =
        let z : w + 1 ≡ suc w = omega arith in
        ap₂ (λ (n x : ℕ). sets (set l w x) n (flags_from table decisions (w + 1) (wires - (w + 1)))) z e ∙ sym (ap (sets l w) flags_more)

    -- a destination more; m is how many are added
    pub dst_step : (l l' : List ℕ) (p m : ℕ) → m ≡ length (only_if (is_committed decisions (get_or table w 0)) (w ∷ []))
        → l' ≡ sets l p (only_if (is_committed decisions (get_or table w 0)) (w ∷ []))
        → sets l' (p + m) (committed_wires table decisions (w + 1) (wires - (w + 1))) ≡ sets l p (committed_wires table decisions w (wires - w))
    dst_step l l' p m e s =
        rw (s) (sets_next l p (p + m) (only_if (is_committed decisions (get_or table w 0)) (w ∷ [])) (committed_wires table decisions (w + 1) (wires - (w + 1))) (omega (arith, e)))
        ∙ ap (sets l p) (sym wires_step)

-- as many numbers of the list as there are destinations
numbers_more : (b : Bool) (list : List ℕ) (f m k w : ℕ) → m ≡ length (only_if b (w ∷ [])) → f + m ≤ length list
    → only_if b (get_or list f 0 ∷ []) ++ take k (drop (f + m) list) ≡ take (m + k) (drop f list)
numbers_more true list f m k w e h =
    let a : f + m ≡ suc f = omega (arith, e) in
    let c : m + k ≡ suc k = omega (arith, e) in
    rw (a, c, drop-cons list f 0 (omega (arith, e, h)))
numbers_more false list f m k w e h =
    let a : f + m ≡ f = omega (arith, e) in
    let c : m + k ≡ k = omega (arith, e) in
    rw (a, c)

pub rhs_step : (b : Bool) (list : List ℕ) (f m k w : ℕ) → m ≡ length (only_if b (w ∷ [])) → f + m ≤ length list
    → (l l' : List ℕ) (p : ℕ) → l' ≡ sets l p (only_if b (get_or list f 0 ∷ [])) → sets l' (p + m) (take k (drop (f + m) list)) ≡ sets l p (take (m + k) (drop f list))
rhs_step b list f m k w e h l l' p s =
    rw (s) (sets_next l p (p + m) (only_if b (get_or list f 0 ∷ [])) (take k (drop (f + m) list)) (omega (arith, e, only_long b w (get_or list f 0))))
    ∙ ap (sets l p) (numbers_more b list f m k w e h)
