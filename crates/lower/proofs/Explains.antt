-- The number given says what is wrong, and what is wrong gives the number. Assumes nothing.
use mathlib.Core.Path.{◌≡◌, refl, sym, ◌∙◌}
use mathlib.Core.Logic.{◌↔◌, ◌⊎◌, inl, inr}
use mathlib.Core.Bool.{Bool, true, false, not}
use Prim.Native.Nat.{ℕ, zero, suc, ◌*◌, ◌<◌}
use native.Mathlib.Omega.{arith}
use borrow.Author.Tests.{not-true}
use Rattle.operand.specs.Numbers.{operand_of}
use Rattle.lower.specs.declared.Sizes.{Sizes}
use Rattle.lower.specs.Model.{System}
use Rattle.lower.specs.Accepted.{Limits, Once, NotEmpty, Single, NoCircle, Accepted}
use Rattle.lower.specs.Stores.{Stores, system_of, Placed}
use Rattle.lower.specs.Faults.{or_else, unless, places_fault, full_fault, terms_in, memory_fault, twice, empty, double, definition_fault, fault_of}
use Rattle.lower.specs.Explained.{Sound, Standing, Explained}
use Rattle.lower.proofs.Firsts.{else_some, else_first, else_second, else_only, unless_holds, unless_only}
use Rattle.lower.proofs.Sounds.{only_345, not_3, not_4, not_5, sound_places, places_sound}
use Rattle.lower.proofs.Accepts.{once_right, not-empty-right, single_right, shaped, full_right, full_only}

else_is : (a b n : ℕ) → or_else a b ≡ n → (n ≡ 0 → ⊥) → (a ≡ n) ⊎ ((a ≡ 0) × (b ≡ n))
else_is zero b n e h = inr (refl, e)
else_is (suc a) b n e h = inl e

-- a test that fails gives the number n
given : (b : Bool) (n : ℕ) (P : Type 0) → (b ≡ false ↔ P) → (P → ⊥) → unless (not b) n ≡ n
given true n P r h = refl
given false n P r h = absurd (h (r.0 refl))

passed : (b : Bool) (n : ℕ) (P : Type 0) → (b ≡ false ↔ P) → P → unless (not b) n ≡ 0
passed b n P r h = rw (r.1 h)

fulfils : (b : Bool) (n : ℕ) (P : Type 0) → (b ≡ false ↔ P) → 0 < n → unless (not b) n ≡ 0 → P
fulfils b n P r q e = r.0 (not-true b (unless_holds (not b) n q e))

module _ (p : System) where
  abbrev d8 : ℕ
  d8 = unless (not (twice p)) 8

  abbrev d9 : ℕ
  d9 = unless (not (empty p)) 9

  abbrev d10 : ℕ
  d10 = unless (not (double p)) 10

  definition_only : (Q : ℕ → Type 0) → Q 0 → Q 8 → Q 9 → Q 10 → Q (definition_fault p)
  unfolding definition_fault
  definition_only Q a b c d =
      else_only Q d8 (or_else d9 d10) (unless_only Q (not (twice p)) 8 a b)
      (else_only Q d9 d10 (unless_only Q (not (empty p)) 9 a c) (unless_only Q (not (double p)) 10 a d))

  abbrev Proper : Type 0
  Proper = Once p.linears × NotEmpty p × Single p

  pub proper_right : definition_fault p ≡ 0 ↔ Proper
  unfolding definition_fault
  proper_right = (
    λ e. let f = else_second d8 (or_else d9 d10) e in (
      fulfils (twice p) 8 _ (once_right p.linears) (omega arith) (else_first d8 (or_else d9 d10) e),
      fulfils (empty p) 9 _ (not-empty-right p) (omega arith) (else_first d9 d10 f),
      fulfils (double p) 10 _ (single_right p) (omega arith) (else_second d9 d10 f),
    ),
    λ y. rw ((once_right p.linears).1 y.0, (not-empty-right p).1 y.1, (single_right p).1 y.2),
  )

  pub is_8 : definition_fault p ≡ 8 ↔ (Once p.linears → ⊥)
  unfolding definition_fault
  is_8 = (λ e o. later (rw (passed (twice p) 8 _ (once_right p.linears) o) at e), λ h. rw (given (twice p) 8 _ (once_right p.linears) h))
    where
      later : or_else d9 d10 ≡ 8 → ⊥
      later = else_only (λ n. n ≡ 8 → ⊥) d9 d10 (unless_only (λ n. n ≡ 8 → ⊥) (not (empty p)) 9 (λ e. omega (arith, e)) (λ e. omega (arith, e)))
          (unless_only (λ n. n ≡ 8 → ⊥) (not (double p)) 10 (λ e. omega (arith, e)) (λ e. omega (arith, e)))

  pub is_9 : definition_fault p ≡ 9 ↔ Once p.linears × (NotEmpty p → ⊥)
  unfolding definition_fault
  is_9 = (
    λ e. (first e, λ h. last (else_is d8 (or_else d9 d10) 9 e (λ z. omega (arith, z))) h),
    λ y. rw (passed (twice p) 8 _ (once_right p.linears) y.0, given (empty p) 9 _ (not-empty-right p) y.1),
  )
    where
      not_9 : d8 ≡ 9 → ⊥
      not_9 = unless_only (λ n. n ≡ 9 → ⊥) (not (twice p)) 8 (λ e. omega (arith, e)) (λ e. omega (arith, e))

      first : or_else d8 (or_else d9 d10) ≡ 9 → Once p.linears
      first e = go (else_is d8 (or_else d9 d10) 9 e (λ z. omega (arith, z)))
        where
          go : (d8 ≡ 9) ⊎ ((d8 ≡ 0) × (or_else d9 d10 ≡ 9)) → Once p.linears
          go (inl x) = absurd (not_9 x)
          go (inr x) = fulfils (twice p) 8 _ (once_right p.linears) (omega arith) x.0

      last : (d8 ≡ 9) ⊎ ((d8 ≡ 0) × (or_else d9 d10 ≡ 9)) → NotEmpty p → ⊥
      last (inl x) h = not_9 x
      last (inr x) h = unless_only (λ n. n ≡ 9 → ⊥) (not (double p)) 10 (λ e. omega (arith, e)) (λ e. omega (arith, e)) (rw (passed (empty p) 9 _ (not-empty-right p) h) at x.1)

  pub is_10 : definition_fault p ≡ 10 ↔ Once p.linears × NotEmpty p × (Single p → ⊥)
  unfolding definition_fault
  is_10 = (
    λ e. go (else_is d8 (or_else d9 d10) 10 e (λ z. omega (arith, z))),
    λ y. rw (passed (twice p) 8 _ (once_right p.linears) y.0, passed (empty p) 9 _ (not-empty-right p) y.1, given (double p) 10 _ (single_right p) y.2),
  )
    where
      deeper : (d9 ≡ 10) ⊎ ((d9 ≡ 0) × (d10 ≡ 10)) → NotEmpty p × (Single p → ⊥)
      deeper (inl x) = absurd (unless_only (λ n. n ≡ 10 → ⊥) (not (empty p)) 9 (λ e. omega (arith, e)) (λ e. omega (arith, e)) x)
      deeper (inr x) = (fulfils (empty p) 9 _ (not-empty-right p) (omega arith) x.0, λ h. let e = passed (double p) 10 _ (single_right p) h in omega (arith, e, x.1))

      go : (d8 ≡ 10) ⊎ ((d8 ≡ 0) × (or_else d9 d10 ≡ 10)) → Once p.linears × NotEmpty p × (Single p → ⊥)
      go (inl x) = absurd (unless_only (λ n. n ≡ 10 → ⊥) (not (twice p)) 8 (λ e. omega (arith, e)) (λ e. omega (arith, e)) x)
      go (inr x) =
          let y = deeper (else_is d9 d10 10 x.1 (λ z. omega (arith, z))) in
          (fulfils (twice p) 8 _ (once_right p.linears) (omega arith) x.0, y.0, y.1)

module _ (limit : ℕ) (z : Sizes) (s : Stores) where
  abbrev p : System
  p = system_of z s

  abbrev a : ℕ
  a = places_fault z s

  abbrev b : ℕ
  b = full_fault limit z (terms_in z s)

  memory_only : (Q : ℕ → Type 0) → Q 0 → Q 3 → Q 4 → Q 5 → Q 6 → Q (memory_fault limit z s)
  unfolding memory_fault
  memory_only Q n c d e f = else_only Q a b (only_345 z s Q n c d e) (full_only Q limit z (terms_in z s) n f)

  pub standing_right : memory_fault limit z s ≡ 0 ↔ Standing z s limit
  unfolding memory_fault
  standing_right = (
    λ e. let y = places_sound z s (else_first a b e) in (y, (full_right limit z s y.0).0 (else_second a b e)),
    λ y. rw (sound_places z s y.0, (full_right limit z s y.0.0).1 y.1),
  )

  -- a number that neither the counts nor the definitions give comes from the places
  from_places : (n : ℕ) → 0 < n → n < 6 → fault_of limit z s ≡ n → a ≡ n
  unfolding fault_of memory_fault
  from_places n lo hi e = outer (else_is (or_else a b) (definition_fault p) n e (λ k. omega (arith, k, lo)))
    where
      Far : ℕ → Type 0
      Far m = m ≡ n → ⊥

      none : Far 0
      none k = omega (arith, k, lo)

      inner : (a ≡ n) ⊎ ((a ≡ 0) × (b ≡ n)) → a ≡ n
      inner (inl x) = x
      inner (inr x) = absurd (full_only Far limit z (terms_in z s) none (λ k. omega (arith, k, hi)) x.1)

      outer : (or_else a b ≡ n) ⊎ ((or_else a b ≡ 0) × (definition_fault p ≡ n)) → a ≡ n
      outer (inl x) = inner (else_is a b n x (λ k. omega (arith, k, lo)))
      outer (inr x) = absurd (definition_only p Far none (λ k. omega (arith, k, hi)) (λ k. omega (arith, k, hi)) (λ k. omega (arith, k, hi)) x.1)

  -- where all stands, the number is the definitions'
  from_definitions : (n : ℕ) → 6 < n → fault_of limit z s ≡ n → Standing z s limit × (definition_fault p ≡ n)
  unfolding fault_of
  from_definitions n hi e = outer (else_is (memory_fault limit z s) (definition_fault p) n e (λ k. omega (arith, k, hi)))
    where
      Far : ℕ → Type 0
      Far m = m ≡ n → ⊥

      outer : (memory_fault limit z s ≡ n) ⊎ ((memory_fault limit z s ≡ 0) × (definition_fault p ≡ n)) → Standing z s limit × (definition_fault p ≡ n)
      outer (inl x) = absurd (memory_only Far (λ k. omega (arith, k, hi)) (λ k. omega (arith, k, hi)) (λ k. omega (arith, k, hi)) (λ k. omega (arith, k, hi)) (λ k. omega (arith, k, hi)) x)
      outer (inr x) = (standing_right.0 x.0, x.1)

  to_definitions : (n : ℕ) → Standing z s limit → definition_fault p ≡ n → fault_of limit z s ≡ n
  unfolding fault_of
  to_definitions n y e = rw (standing_right.1 y) e

  unsound_right : (fault_of limit z s ≡ 3) ⊎ ((fault_of limit z s ≡ 4) ⊎ (fault_of limit z s ≡ 5)) ↔ (Sound z s → ⊥)
  unfolding fault_of memory_fault
  unsound_right = (there, λ h. back h (only_345 z s (λ n. (n ≡ 0) ⊎ ((n ≡ 3) ⊎ ((n ≡ 4) ⊎ (n ≡ 5)))) (inl refl) (inr (inl refl)) (inr (inr (inl refl))) (inr (inr (inr refl)))))
    where
      none : (n : ℕ) → Sound z s → a ≡ n → (n ≡ 0 → ⊥) → ⊥
      none n y e h = h (sym e ∙ sound_places z s y)

      there : (fault_of limit z s ≡ 3) ⊎ ((fault_of limit z s ≡ 4) ⊎ (fault_of limit z s ≡ 5)) → Sound z s → ⊥
      there (inl e) y = none 3 y (from_places 3 (omega arith) (omega arith) e) (λ k. omega (arith, k))
      there (inr (inl e)) y = none 4 y (from_places 4 (omega arith) (omega arith) e) (λ k. omega (arith, k))
      there (inr (inr e)) y = none 5 y (from_places 5 (omega arith) (omega arith) e) (λ k. omega (arith, k))

      up : (n : ℕ) → a ≡ n → (n ≡ 0 → ⊥) → or_else (or_else a b) (definition_fault p) ≡ n
      up n e h = let k : a ≡ 0 → ⊥ = λ q. h (sym e ∙ q) in rw (else_some a b k, else_some a (definition_fault p) k) e

      back : (Sound z s → ⊥) → (a ≡ 0) ⊎ ((a ≡ 3) ⊎ ((a ≡ 4) ⊎ (a ≡ 5))) → (or_else (or_else a b) (definition_fault p) ≡ 3) ⊎ ((or_else (or_else a b) (definition_fault p) ≡ 4) ⊎ (or_else (or_else a b) (definition_fault p) ≡ 5))
      back h (inl e) = absurd (h (places_sound z s e))
      back h (inr (inl e)) = inl (up 3 e (λ k. omega (arith, k)))
      back h (inr (inr (inl e))) = inr (inl (up 4 e (λ k. omega (arith, k))))
      back h (inr (inr (inr e))) = inr (inr (up 5 e (λ k. omega (arith, k))))

  full_is : fault_of limit z s ≡ 6 ↔ Sound z s × (Limits limit p → ⊥)
  unfolding fault_of memory_fault
  full_is = (λ e. outer (else_is (or_else a b) (definition_fault p) 6 e (λ k. omega (arith, k))), λ y. back y.0 y.1 (full_only (λ n. (n ≡ 0) ⊎ (n ≡ 6)) limit z (terms_in z s) (inl refl) (inr refl)))
    where
      inner : (a ≡ 6) ⊎ ((a ≡ 0) × (b ≡ 6)) → Sound z s × (Limits limit p → ⊥)
      inner (inl x) = absurd (only_345 z s (λ n. n ≡ 6 → ⊥) (λ k. omega (arith, k)) (λ k. omega (arith, k)) (λ k. omega (arith, k)) (λ k. omega (arith, k)) x)
      inner (inr x) = let y = places_sound z s x.0 in (y, λ l. let e = (full_right limit z s y.0).1 l in omega (arith, e, x.1))

      outer : (or_else a b ≡ 6) ⊎ ((or_else a b ≡ 0) × (definition_fault p ≡ 6)) → Sound z s × (Limits limit p → ⊥)
      outer (inl x) = inner (else_is a b 6 x (λ k. omega (arith, k)))
      outer (inr x) = absurd (definition_only p (λ n. n ≡ 6 → ⊥) (λ k. omega (arith, k)) (λ k. omega (arith, k)) (λ k. omega (arith, k)) (λ k. omega (arith, k)) x.1)

      back : Sound z s → (Limits limit p → ⊥) → (b ≡ 0) ⊎ (b ≡ 6) → or_else (or_else a b) (definition_fault p) ≡ 6
      back y h (inl e) = absurd (h ((full_right limit z s y.0).0 e))
      back y h (inr e) = rw (sound_places z s y, e)

  none_is : fault_of limit z s ≡ 0 ↔ Standing z s limit × Proper p
  unfolding fault_of
  none_is = (
    λ e. (standing_right.0 (else_first (memory_fault limit z s) _ e), (proper_right p).0 (else_second (memory_fault limit z s) _ e)),
    λ y. rw (standing_right.1 y.0) ((proper_right p).1 y.1),
  )

  -- the number that `check_all` gives
  pub explained : Explained z s limit (fault_of limit z s)
  explained =
      record {
        none = none_is;
        unsound = unsound_right;
        shape = λ e y. not_3 z s y (from_places 3 (omega arith) (omega arith) e);
        shift = λ e y. not_4 z s y (from_places 4 (omega arith) (omega arith) e);
        wire = λ e y. not_5 z s y (from_places 5 (omega arith) (omega arith) e);
        full = full_is;
        twice = (λ e. let x = from_definitions 8 (omega arith) e in (x.0, (is_8 p).0 x.1), λ y. to_definitions 8 y.0 ((is_8 p).1 y.1));
        empty = (λ e. let x = from_definitions 9 (omega arith) e in (x.0, (is_9 p).0 x.1), λ y. to_definitions 9 y.0 ((is_9 p).1 y.1));
        double = (λ e. let x = from_definitions 10 (omega arith) e in (x.0, (is_10 p).0 x.1), λ y. to_definitions 10 y.0 ((is_10 p).1 y.1));
      }

-- a system without fault and circle is accepted
pub accepted : (z : Sizes) (s : Stores) → fault_of 8192 z s ≡ 0 → NoCircle (system_of z s) → Accepted (system_of z s)
unfolding system_of
accepted z s e c =
    let y = (explained 8192 z s).none.0 e in let f = operand_of s.old s.new in let l = y.0.0.0 in
    let one : z.zeros ≡ 1 * z.zeros = omega arith in
    record {
      shaped = record {
        ands_shaped = shaped f 3 z.ands s.ands l.ands_there;
        imuls_shaped = shaped f 4 z.imuls s.imuls l.imuls_there;
        bmuls_shaped = shaped f 6 z.bmuls s.bmuls l.bmuls_there;
        zeros_shaped = shaped f 1 z.zeros s.zeros (rw one at l.zeros_there);
      };
      named = y.0.0.1;
      shifted = y.0.0.2;
      limits = y.0.1;
      once = y.1.0;
      not-empty = y.1.1;
      single = y.1.2;
      no_circle = c;
    }

-- and the other way round
pub accepted_none : (z : Sizes) (s : Stores) → Placed z s → Accepted (system_of z s) → fault_of 8192 z s ≡ 0
accepted_none z s l y = (explained 8192 z s).none.1 (((l, y.named, y.shifted), y.limits), (y.once, y.not-empty, y.single))
