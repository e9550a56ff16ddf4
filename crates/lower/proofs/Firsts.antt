-- The first fault of a list, and loops that look for it. Assumes nothing.
use mathlib.Core.Path.{◌≡◌, refl, ap, subst, ◌∙◌}
use mathlib.Core.List.{List, [], ◌∷◌, ◌++◌, map}
use mathlib.Core.Bool.{Bool, true, false}
use Prim.Native.Nat.{ℕ, zero, suc, ◌+◌, ◌*◌, ◌-◌, ◌≤◌, ◌<◌, ◌/◌}
use native.Mathlib.Omega.{arith}
use native.Mathlib.Numerals.{add-one}
use native.Mathlib.Nat.{mul_comm, div-lt_iff_lt-mul, le-div_iff_mul-le}
use lib.ListN.{length, take, drop, get_or, drop_of_length-le}
use lib.Seq.{drop-cons, length-take-le, get_or-take}
use Rattle.lower.specs.Lists.{All, done, more, sum_of}
use Rattle.lower.specs.Faults.{or_else, unless, first_fault}

-- ---- or_else, unless

pub else_some : (a b : ℕ) → (a ≡ 0 → ⊥) → or_else a b ≡ a
else_some zero b h = absurd (h refl)
else_some (suc a) b h = refl

pub else_none : (a b : ℕ) → a ≡ 0 → or_else a b ≡ b
else_none a b h = rw h

pub else_first : (a b : ℕ) → or_else a b ≡ 0 → a ≡ 0
else_first zero b h = refl
else_first (suc a) b h = h

pub else_second : (a b : ℕ) → or_else a b ≡ 0 → b ≡ 0
else_second zero b h = h
else_second (suc a) b h = absurd (omega arith)

pub else_split : (a b : ℕ) → or_else a b ≡ 0 → (a ≡ 0) × (b ≡ 0)
else_split a b h = (else_first a b h, else_second a b h)

-- what holds of both faults holds of the first of the two
pub else_only : (Q : ℕ → Type 0) (a b : ℕ) → Q a → Q b → Q (or_else a b)
else_only Q zero b p q = q
else_only Q (suc a) b p q = p

pub unless_holds : (b : Bool) (n : ℕ) → 0 < n → unless b n ≡ 0 → b ≡ true
unless_holds true n p h = refl
unless_holds false n p h = absurd (omega arith)

pub unless_only : (Q : ℕ → Type 0) (b : Bool) (n : ℕ) → Q 0 → Q n → Q (unless b n)
unless_only Q true n p q = p
unless_only Q false n p q = q

-- ---- one more element

pub drop_step : {A : Type 0} (l : List A) (i : ℕ) (d : A) → i < length l → drop i l ≡ get_or l i d ∷ drop (i + 1) l
drop_step l i d h = rw (add-one, drop-cons l i d h)

-- one element more at the front, for a loop from the end
pub drop_back : {A : Type 0} (l : List A) (i : ℕ) (d : A) → 0 < i → i ≤ length l → drop (i - 1) l ≡ get_or l (i - 1) d ∷ drop i l
drop_back l i d p h = let e : i - 1 + 1 ≡ i = omega arith in drop_step l (i - 1) d (omega arith) ∙ ap (λ (j : ℕ). get_or l (i - 1) d ∷ drop j l) e

pub first_map : {A B : Type 0} (f : B → ℕ) (g : A → B) (l : List A) → first_fault f (map g l) ≡ first_fault (λ x. f (g x)) l
first_map f g [] = refl
first_map f g (x ∷ xs) = ap (or_else (f (g x))) (first_map f g xs)

-- no fault is no fault of each
pub first_none : {A : Type 0} (f : A → ℕ) (l : List A) → first_fault f l ≡ 0 → All (λ (x : A). f x ≡ 0) l
first_none f [] e = done
first_none f (x ∷ l) e = more (else_first (f x) (first_fault f l) e) (first_none f l (else_second (f x) (first_fault f l) e))

-- what holds of 0 and of each fault holds of the first
pub first_only : {A : Type 0} (Q : ℕ → Type 0) (f : A → ℕ) (l : List A) → Q 0 → All (λ (x : A). Q (f x)) l → Q (first_fault f l)
first_only Q f [] z done = z
first_only Q f (x ∷ l) z (more p h) = else_only Q (f x) (first_fault f l) p (first_only Q f l z h)

-- ---- counts and lengths

pub rows_short : (k n l : ℕ) → 0 < k → l / k < n → l < k * n
rows_short k n l p h = rw (mul_comm k n) ((div-lt_iff_lt-mul p).0 h)

pub rows_long : (k n l : ℕ) → 0 < k → n ≤ l / k → k * n ≤ l
rows_long k n l p h = rw (mul_comm k n) ((le-div_iff_mul-le p).0 h)

-- the i-th of the first n, and those after it
pub part_step : {A : Type 0} (l : List A) (n i : ℕ) (d : A) → i < n → n ≤ length l → drop i (take n l) ≡ get_or l i d ∷ drop (i + 1) (take n l)
part_step l n i d p q =
    let e : i < length (take n l) = rw (length-take-le n l q) p in
    drop_step (take n l) i d e ∙ rw (get_or-take n l i d p)

pub part_end : {A : Type 0} (l : List A) (n i : ℕ) → n ≤ length l → n ≤ i → drop i (take n l) ≡ []
part_end l n i q p = drop_of_length-le (take n l) {i = i} (rw (length-take-le n l q) p)

-- what holds of each holds of the i-th
pub all_at : {A : Type 0} {P : A → Type 0} (l : List A) (i : ℕ) (d : A) → All P l → i < length l → P (get_or l i d)
all_at [] i d h p = absurd (omega arith)
all_at (x ∷ l) zero d (more q h) p = q
all_at (x ∷ l) (suc i) d (more q h) p = all_at l i d h (omega arith)

-- what holds of the first n holds of the i-th
pub part_all : {A : Type 0} {P : A → Type 0} (l : List A) (n i : ℕ) (d : A) → All P (take n l) → i < n → n ≤ length l → P (get_or l i d)
part_all {P = P} l n i d h p q = subst P (get_or-take n l i d p) (all_at (take n l) i d h (rw (length-take-le n l q) p))

pub sum-append : {A : Type 0} (f : A → ℕ) (a b : List A) → sum_of f (a ++ b) ≡ sum_of f a + sum_of f b
sum-append f [] b = omega arith
sum-append f (x ∷ xs) b = let h = sum-append f xs b in omega arith
