-- Whether a test passes somewhere in a list, loops that look for it, and the table of marks. Assumes nothing.
use mathlib.Core.Path.{◌≡◌, refl, sym, ◌∙◌}
use mathlib.Core.List.{List, [], ◌∷◌, ◌++◌, map}
use mathlib.Core.Bool.{Bool, true, false, ◌||◌}
use Prim.Native.Nat.{ℕ, zero, suc, ◌+◌, ◌<◌}
use native.Mathlib.Omega.{arith}
use lib.ListN.{length, drop, set, length-set, replicate}
use lib.Seq.{get_or-set_same, get_or-set_other}
use lib.Dec.{eqb}
use borrow.Author.Tests.{eq-eqb, ne_eqb, eqb-true, eqb-false}
use Rattle.std.specs.List.{list_any}
use Rattle.lower.specs.Lists.{All, done, more, some_of, joined}
use Rattle.lower.specs.Faults.{repeated}
use Rattle.lower.specs.Tables.{marks, marked}

-- ---- tests

pub neither : (a b : Bool) → (a || b) ≡ false → (a ≡ false) × (b ≡ false)
neither true b h = absurd (let z : ◌≡◌ {A = ℕ} 0 1 = cc in omega arith)
neither false b h = (refl, h)

or_assoc : (a b c : Bool) → (a || (b || c)) ≡ ((a || b) || c)
or_assoc true b c = refl
or_assoc false b c = refl

or_swap : (a b c : Bool) → (a || (b || c)) ≡ ((b || a) || c)
or_swap true true c = refl
or_swap true false c = refl
or_swap false true c = refl
or_swap false false c = refl

-- ---- some_of

module _ {A : Type 0} (p : A → Bool) where
  -- one turn of a loop that looks for an element that passes
  module _ (m : List A) (i : ℕ) (x : A) (e : drop i m ≡ x ∷ drop (i + 1) m) where
    pub some_stop : p x ≡ true → some_of p (drop i m) ≡ true
    some_stop h = rw (e, h)

    pub some_go : p x ≡ false → some_of p (drop i m) ≡ some_of p (drop (i + 1) m)
    some_go h = rw (e, h)

  pub some-append : (a b : List A) → some_of p (a ++ b) ≡ (some_of p a || some_of p b)
  some-append [] b = refl
  some-append (x ∷ a) b = rw (some-append a b) (or_assoc (p x) (some_of p a) (some_of p b))

  pub some-joined : (ls : List (List A)) → some_of p (joined ls) ≡ some_of (λ (l : List A). some_of p l) ls
  some-joined [] = refl
  some-joined (l ∷ ls) = some-append l (joined ls) ∙ rw (some-joined ls)

  pub some_any : (l : List A) → some_of p l ≡ list_any p l
  some_any [] = refl
  some_any (x ∷ l) = rw (some_any l)

  -- nothing passes is that each fails
  pub none_all : (l : List A) → some_of p l ≡ false → All (λ (x : A). p x ≡ false) l
  none_all [] h = done
  none_all (x ∷ l) h = let b = neither (p x) (some_of p l) h in more b.0 (none_all l b.1)

  pub all_none : (l : List A) → All (λ (x : A). p x ≡ false) l → some_of p l ≡ false
  all_none [] done = refl
  all_none (x ∷ l) (more h k) = rw (h, all_none l k)

pub some-map : {A B : Type 0} (p : B → Bool) (f : A → B) (l : List A) → some_of p (map f l) ≡ some_of (λ (x : A). p (f x)) l
some-map p f [] = refl
some-map p f (x ∷ l) = rw (some-map p f l)

pub some_same : {A : Type 0} (p q : A → Bool) (l : List A) → All (λ (x : A). p x ≡ q x) l → some_of p l ≡ some_of q l
some_same p q [] done = refl
some_same p q (x ∷ l) (more h k) = rw (h, some_same p q l k)

-- ---- the table of marks

pub marked-set : (l : List ℕ) (d w : ℕ) → d < length l → marked (set l d 1) w ≡ (eqb w d || marked l w)
marked-set l d w p = go (eqb w d) refl
  where
    go : (b : Bool) → eqb w d ≡ b → marked (set l d 1) w ≡ (b || marked l w)
    go true e = let h : w ≡ d = eqb-true w d e in rw (h, get_or-set_same l d 1 0 p)
    go false e = rw (get_or-set_other l d w 1 0 (eqb-false w d e))

pub marked-none : (n w : ℕ) → marked (replicate n 0) w ≡ false
marked-none zero w = refl
marked-none (suc n) zero = refl
marked-none (suc n) (suc w) = marked-none n w

-- each of ds is marked, and what was
pub marked_all : (ds l : List ℕ) (w : ℕ) → All (λ (d : ℕ). d < length l) ds → marked (marks l ds) w ≡ (some_of (eqb w) ds || marked l w)
marked_all [] l w h = refl
marked_all (d ∷ ds) l w (more p h) =
    marked_all ds (set l d 1) w (rw (length-set l d 1) h) ∙ rw (marked-set l d w p) (or_swap (some_of (eqb w) ds) (eqb w d) (marked l w))

-- ---- a number that stands twice, by marks

abbrev pub again : List ℕ → List ℕ → Bool
again met l = some_of (marked met) l || repeated l

module _ (met m : List ℕ) (i x : ℕ) (e : drop i m ≡ x ∷ drop (i + 1) m) where
  pub again_go : x < length met → marked met x ≡ false → again met (drop i m) ≡ again (set met x 1) (drop (i + 1) m)
  again_go p h = rw (e, h, newly (drop (i + 1) m)) (or_swap (some_of (marked met) (drop (i + 1) m)) (some_of (eqb x) (drop (i + 1) m)) (repeated (drop (i + 1) m)))
    where
      swapped : (a b : ℕ) → eqb a b ≡ eqb b a
      swapped a b = go (eqb b a) refl
        where
          go : (t : Bool) → eqb b a ≡ t → eqb a b ≡ t
          go true q = eq-eqb a b (sym (eqb-true b a q))
          go false q = ne_eqb a b (λ r. eqb-false b a q (sym r))

      newly : (l : List ℕ) → some_of (marked (set met x 1)) l ≡ (some_of (eqb x) l || some_of (marked met) l)
      newly [] = refl
      newly (y ∷ l) = rw (marked-set met x y p, newly l, swapped y x) (mixed (eqb x y) (marked met y) (some_of (eqb x) l) (some_of (marked met) l))
        where
          mixed : (a b c d : Bool) → ((a || b) || (c || d)) ≡ ((a || c) || (b || d))
          mixed true b c d = refl
          mixed false true true d = refl
          mixed false true false d = refl
          mixed false false c d = refl

pub again_none : (n : ℕ) (l : List ℕ) → again (replicate n 0) l ≡ repeated l
again_none n l = rw (all_none (marked (replicate n 0)) l (every l))
  where
    every : (l : List ℕ) → All (λ (w : ℕ). marked (replicate n 0) w ≡ false) l
    every [] = done
    every (w ∷ l) = more (marked-none n w) (every l)
