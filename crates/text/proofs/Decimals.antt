-- The digits of a number: one more, what they say, how many. Assumes nothing.
use mathlib.Core.Path.{◌≡◌, refl, sym, ap, ◌∙◌, subst}
use Prim.Native.Nat.{ℕ, zero, suc, ◌+◌, ◌*◌, ◌-◌, ◌/◌, ◌%◌, ◌^◌, ◌≤◌, ◌<◌}
use native.Mathlib.Omega.{arith}
use mathlib.Core.Bool.{Bool, true, false}
use mathlib.Core.List.{List, [], ◌∷◌, ◌++◌}
use lib.Dec.{ltb}
use lib.ListN.{length, get_or, length-append}
use borrow.Author.Tests.{lt-ltb, le-ltb, ltb-true, ltb-false}
use Rattle.lower.specs.Lists.{All, done, more}
use Rattle.lower.proofs.Laws.{all_both}
use Rattle.text.specs.Decimal.{digit, decimal_by, decimal, value_from, value_of}

-- ---- one more digit

one_or_more : {P : Type 0} (n : ℕ) → (n < 10 → P) → (10 ≤ n → P) → P
one_or_more {P} n f g = go (ltb n 10) refl
  where
    go : (b : Bool) → ltb n 10 ≡ b → P
    go true e = f (ltb-true n 10 e)
    go false e = g (ltb-false n 10 e)

by_one : (k n : ℕ) → n < 10 → decimal_by k n ≡ digit n ∷ []
unfolding decimal_by
by_one zero n h = refl
by_one (suc k) n h = rw (lt-ltb n 10 h)

by-more : (k n : ℕ) → 10 ≤ n → decimal_by (suc k) n ≡ decimal_by k (n / 10) ++ (digit (n % 10) ∷ [])
unfolding decimal_by
by-more k n h = rw (le-ltb n 10 h)

-- any number that is no less than the digits will do
by-same : (k j n : ℕ) → n ≤ k → n ≤ j → decimal_by k n ≡ decimal_by j n
by-same zero j n h i = by_one zero n (omega arith) ∙ sym (by_one j n (omega arith))
by-same (suc k) zero n h i = by_one (suc k) n (omega arith) ∙ sym (by_one zero n (omega arith))
by-same (suc k) (suc j) n h i =
    one_or_more n (λ l. by_one (suc k) n l ∙ sym (by_one (suc j) n l))
    (λ m. by-more k n m ∙ ap (λ (l : List ℕ). l ++ (digit (n % 10) ∷ [])) (by-same k j (n / 10) (omega arith) (omega arith)) ∙ sym (by-more j n m))

pub decimal_one : (n : ℕ) → n < 10 → decimal n ≡ digit n ∷ []
unfolding decimal
decimal_one n h = by_one n n h

pub decimal-more : (n : ℕ) → 10 ≤ n → decimal n ≡ decimal (n / 10) ++ (digit (n % 10) ∷ [])
unfolding decimal
decimal-more zero h = absurd (omega arith)
decimal-more (suc n) h =
    by-more n (suc n) h ∙ ap (λ (l : List ℕ). l ++ (digit (suc n % 10) ∷ [])) (by-same n (suc n / 10) (suc n / 10) (omega arith) (omega arith))

-- ---- what they say

value-append : (v : ℕ) (xs ys : List ℕ) → value_from v (xs ++ ys) ≡ value_from (value_from v xs) ys
unfolding value_from
value-append v [] ys = refl
value-append v (x ∷ xs) ys = value-append (10 * v + (x - 48)) xs ys

value-digit : (v d : ℕ) → value_from v (digit d ∷ []) ≡ 10 * v + d
unfolding value_from
value-digit v d = omega arith

value_one : (n : ℕ) → value_of (digit n ∷ []) ≡ n
value_one n = value-digit 0 n ∙ omega arith

by-none : (n : ℕ) → decimal_by zero n ≡ digit n ∷ []
unfolding decimal_by
by-none n = refl

by_value : (k n : ℕ) → value_of (decimal_by k n) ≡ n
by_value zero n = ap value_of (by-none n) ∙ value_one n
by_value (suc k) n =
    one_or_more n (λ l. ap value_of (by_one (suc k) n l) ∙ value_one n)
    (λ m. ap value_of (by-more k n m)
    ∙ value-append 0 (decimal_by k (n / 10)) (digit (n % 10) ∷ [])
    ∙ ap (λ (v : ℕ). value_from v (digit (n % 10) ∷ [])) (by_value k (n / 10))
    ∙ value-digit (n / 10) (n % 10)
    ∙ omega arith)

-- THE LAW. The digits of a number, read back, are the number.
pub value-decimal : (n : ℕ) → value_of (decimal n) ≡ n
unfolding decimal
value-decimal n = by_value n n

-- ---- how many

decimal_few : (j n : ℕ) → n < 10 ^ suc j → length (decimal n) ≤ suc j
decimal_few zero n h = rw (decimal_one n (omega arith)) (omega arith)
decimal_few (suc j) n h =
    one_or_more n (λ l. rw (decimal_one n l) (omega arith))
    (λ m. let i = decimal_few j (n / 10) (omega arith) in rw (decimal-more n m, length-append) (omega arith))

-- a number of 64 bits has no more than 20
pub decimal-length : (n : ℕ) → n < 2 ^ 64 → length (decimal n) ≤ 20
decimal-length n h = decimal_few 19 n (omega arith)

pub decimal-some : (n : ℕ) → 0 < length (decimal n)
decimal-some n = one_or_more n (λ l. rw (decimal_one n l) (omega arith)) (λ m. rw (decimal-more n m, length-append) (omega arith))

-- ---- that they are digits, and that the first is not 0 but where it stands alone

abbrev pub IsDigit : ℕ → Type 0
IsDigit d = (48 ≤ d) × (d < 58)

by_digits : (k n : ℕ) → n ≤ k → All IsDigit (decimal_by k n)
by_digits zero n h = subst (All IsDigit) (sym (by-none n)) (more (omega arith, omega arith) done)
by_digits (suc k) n h =
    one_or_more n (λ l. subst (All IsDigit) (sym (by_one (suc k) n l)) (more (omega arith, omega arith) done))
    (λ m. subst (All IsDigit) (sym (by-more k n m)) (all_both IsDigit (by_digits k (n / 10) (omega arith)) (more (omega arith, omega arith) done)))

pub decimal_digits : (n : ℕ) → All IsDigit (decimal n)
unfolding decimal
decimal_digits n = by_digits n n (omega arith)

front_append : (xs ys : List ℕ) → 0 < length xs → get_or (xs ++ ys) 0 0 ≡ get_or xs 0 0
front_append [] ys h = absurd (omega arith)
front_append (x ∷ xs) ys h = refl

front_more : (j n : ℕ) → 0 < n → n ≤ j → 48 < get_or (decimal n) 0 0
front_more zero n p h = absurd (omega arith)
front_more (suc j) n p h =
    one_or_more n (λ l. rw (decimal_one n l) (omega arith))
    (λ m. rw (decimal-more n m, front_append (decimal (n / 10)) (digit (n % 10) ∷ []) (decimal-some (n / 10))) (front_more j (n / 10) (omega arith) (omega arith)))

pub decimal_front : (n : ℕ) → 0 < n → 48 < get_or (decimal n) 0 0
decimal_front n h = front_more n n h (omega arith)
