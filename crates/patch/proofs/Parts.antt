-- Facts about the words for lists that the patched lists are written with. Assumes nothing.
use mathlib.Core.Path.{◌≡◌, refl, sym, ap₂}
use mathlib.Core.Bool.{Bool, true, false, cond, not}
use mathlib.Core.List.{List, [], ◌∷◌, ◌++◌, map, append_assoc, Memᴰ}
use mathlib.Core.Option.{Option, none, some}
use Prim.Native.Nat.{ℕ, zero, suc, ◌<◌}
use native.Mathlib.Omega.{arith}
use native.Mathlib.Decide.{dec_lt}
use Rattle.lower.specs.Lists.{All, done, more, keep}
use Rattle.lower.proofs.Laws.{all_left, all_right, all_both}
use Rattle.patch.specs.Lists.{gather, up_to}

-- ---- a test and what was found, with the equation that says which it is

pub data Which (b : Bool) : Type 0 where
  is_true : b ≡ true → Which b
  is_false : b ≡ false → Which b

pub which : (b : Bool) → Which b
which true = is_true refl
which false = is_false refl

pub data Found {A : Type 0} (o : Option A) : Type 0 where
  absent : o ≡ none → Found o
  present : (a : A) → o ≡ some a → Found o

pub found : {A : Type 0} (o : Option A) → Found o
found none = absent refl
found (some a) = present a refl

pub clash : {b : Bool} → b ≡ true → b ≡ false → ⊥
clash p q = let z : ◌≡◌ {A = ℕ} 0 1 = cc in omega arith

pub lost : {A : Type 0} {o : Option A} {a : A} → o ≡ some a → o ≡ none → ⊥
lost p q = let z : ◌≡◌ {A = ℕ} 0 1 = cc in omega arith

pub not-true : (b : Bool) → not b ≡ true → b ≡ false
not-true true e = sym e
not-true false e = refl

-- ---- each element

module _ {A : Type 0} {P : A → Type 0} where
  pub all_keep : (p : A → Bool) {l : List A} → All P l → All P (keep p l)
  all_keep p done = done
  all_keep p (more {x = x} {xs = xs} h t) = step (p x) (all_keep p t)
    where
      step : (b : Bool) → All P (keep p xs) → All P (cond b (x ∷ keep p xs) (keep p xs))
      step true k = more h k
      step false k = k

  -- what is kept, and what is known of it
  pub all_kept : (p : A → Bool) {l : List A} → All (λ (x : A). p x ≡ true → P x) l → All P (keep p l)
  all_kept p done = done
  all_kept p (more {x = x} {xs = xs} h t) = step (p x) refl (all_kept p t)
    where
      step : (b : Bool) → p x ≡ b → All P (keep p xs) → All P (cond b (x ∷ keep p xs) (keep p xs))
      step true e k = more (h e) k
      step false e k = k

  pub all_unkept : (p : A → Bool) (l : List A) → All P (keep p l) → All (λ (x : A). p x ≡ true → P x) l
  all_unkept p [] h = done
  all_unkept p (x ∷ xs) h = step (λ k. all_unkept p xs k) (p x) refl h
    where
      first : All P (x ∷ keep p xs) → P x
      first (more a k) = a

      rest : All P (x ∷ keep p xs) → All P (keep p xs)
      rest (more a k) = k

      step : (All P (keep p xs) → All (λ (y : A). p y ≡ true → P y) xs) → (b : Bool) → p x ≡ b → All P (cond b (x ∷ keep p xs) (keep p xs))
          → All (λ (y : A). p y ≡ true → P y) (x ∷ xs)
      step onward true e k = more (λ t. first k) (onward (rest k))
      step onward false e k = more (λ t. absurd (clash t e)) (onward k)

  pub all_members : (l : List A) → ((x : A) → Memᴰ x l → P x) → All P l
  all_members [] f = done
  all_members (x ∷ xs) f = more (f x (Memᴰ.head refl)) (all_members xs (λ y m. f y (Memᴰ.tail m)))

module _ {A : Type 0} {P Q : A → Type 0} where
  pub all_each : ((x : A) → P x → Q x) → {l : List A} → All P l → All Q l
  all_each f done = done
  all_each f (more {x = x} h t) = more (f x h) (all_each f t)

module _ {A : Type 0} {P Q R : A → Type 0} where
  pub all_two : ((x : A) → P x → Q x → R x) → {l : List A} → All P l → All Q l → All R l
  all_two f done done = done
  all_two f (more {x = x} h t) (more k u) = more (f x h k) (all_two f t u)

module _ {A : Type 0} {P Q R S : A → Type 0} where
  pub all_three : ((x : A) → P x → Q x → R x → S x) → {l : List A} → All P l → All Q l → All R l → All S l
  all_three f done done done = done
  all_three f (more {x = x} h t) (more k u) (more m v) = more (f x h k m) (all_three f t u v)

module _ {A B : Type 0} (f : A → B) {P : B → Type 0} where
  pub all_mapped : {l : List A} → All (λ (x : A). P (f x)) l → All P (map f l)
  all_mapped done = done
  all_mapped (more h t) = more h (all_mapped t)

-- ---- gather

module _ {A B : Type 0} (f : A → List B) {P : B → Type 0} where
  pub all_gather : {l : List A} → All (λ (x : A). All P (f x)) l → All P (gather f l)
  all_gather done = done
  all_gather (more h t) = all_both P h (all_gather t)

  pub all_ungather : (l : List A) → All P (gather f l) → All (λ (x : A). All P (f x)) l
  all_ungather [] h = done
  all_ungather (x ∷ xs) h = more (all_left P (f x) (gather f xs) h) (all_ungather xs (all_right P (f x) (gather f xs) h))

pub gather-same : {A B : Type 0} (f g : A → List B) {l : List A} → All (λ (x : A). f x ≡ g x) l → gather f l ≡ gather g l
gather-same {A} {B} f g done = refl
gather-same {A} {B} f g (more h t) = ap₂ {C = List B} ◌++◌ h (gather-same f g t)

pub gather_append : {A B : Type 0} (f : A → List B) (a b : List A) → gather f (a ++ b) ≡ gather f a ++ gather f b
gather_append f [] b = refl
gather_append f (x ∷ xs) b = rw (gather_append f xs b) (sym (append_assoc (f x) (gather f xs) (gather f b)))

-- ---- up_to

module _ {P : ℕ → Type 0} where
  pub all_up_to : (n : ℕ) → ((i : ℕ) → i < n → P i) → All P (up_to n)
  all_up_to zero f = done
  all_up_to (suc n) f = all_both P (all_up_to n (λ i h. f i (omega arith))) (more (f n (omega arith)) done)

  pub up_to_at : (n : ℕ) → All P (up_to n) → (i : ℕ) → i < n → P i
  up_to_at zero h i b = absurd (omega arith)
  up_to_at (suc n) h i b = step (λ k. up_to_at n (all_left P (up_to n) (n ∷ []) h) i k) (dec_lt i n)
    where
      only : All P (n ∷ []) → P n
      only (more a k) = a

      step : (i < n → P i) → Dec (i < n) → P i
      step onward (yes k) = onward k
      step onward (no k) = let e : i ≡ n = omega arith in rw e (only (all_right P (up_to n) (n ∷ []) h))
