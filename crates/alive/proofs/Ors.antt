-- Or and and of words, by bits; or goes through a shift. Assumes nothing.
use mathlib.Core.Path.{◌≡◌, sym, ap, ap₂, ◌∙◌}
use Prim.Native.Nat.{ℕ, ◌-◌, ◌/◌, ◌%◌, ◌^◌, ◌≤◌, ◌<◌}
use native.Mathlib.Nat.{zero-div}
use native.Mathlib.Decide.{ℕ_discrete}
use native.Mathlib.Omega.{arith}
use lib.Pow.{pow_pos, ones_sub-lt}
use lib.Bits.{bit_and, bit_or, and_shr, and_mod, or_shr, or_mod, and_zero_l, and_zero_r, or_lt, or_add_and, and_le_l, and_le_r}
use Rattle.word.proofs.Bits.{bit, bit_lt, bit_not, ext}
use Rattle.word.proofs.Moves.{Moves}
use Rattle.shift.specs.declared.Shift.{Shift}
use Rattle.shift.specs.Shifts.{Valid, apply_of}
use Rattle.shift.proofs.Linear.{moves}

pub data Digit (x : ℕ) : Type 0 where
  off : x ≡ 0 → Digit x
  on : x ≡ 1 → Digit x

pub digit : (w i : ℕ) → Digit (bit w i)
digit w i = elim (ℕ_discrete (bit w i) 0) [ yes e ↦ off e | no e ↦ on (omega (arith, bit_lt w i)) ]

pub bit_nought : (i : ℕ) → bit 0 i ≡ 0
bit_nought i = ap (λ (x : ℕ). x % 2) (zero-div (2 ^ i))

pub bit_and_lem : (a b i : ℕ) → bit (bit_and a b) i ≡ bit_and (bit a i) (bit b i)
bit_and_lem a b i = ap (λ (x : ℕ). x % 2) (and_shr a b i) ∙ and_mod (a / 2 ^ i) (b / 2 ^ i) 1

pub bit_or_lem : (a b i : ℕ) → bit (bit_or a b) i ≡ bit_or (bit a i) (bit b i)
bit_or_lem a b i = ap (λ (x : ℕ). x % 2) (or_shr a b i) ∙ or_mod (a / 2 ^ i) (b / 2 ^ i) 1

-- ---- two words have a bit in common, or none

pub shared : (a b i : ℕ) → bit a i ≡ 1 → bit b i ≡ 1 → bit_and a b ≡ 0 → ⊥
shared a b i p q e =
    let z : ◌≡◌ {A = ℕ} 0 1 = sym (bit_nought i) ∙ ap (λ (x : ℕ). bit x i) (sym e) ∙ bit_and_lem a b i ∙ ap₂ (λ (x y : ℕ). bit_and x y) p q in
    omega arith

pub apart : (k a b : ℕ) → a < 2 ^ k → ((i : ℕ) → i < k → bit a i ≡ 1 → bit b i ≡ 1 → ⊥) → bit_and a b ≡ 0
apart k a b h f = ext k (go (and_le_l a b)) (pow_pos k) (λ i l. bit_and_lem a b i ∙ step i l (digit a i) (digit b i) ∙ sym (bit_nought i))
  where
    go : bit_and a b ≤ a → bit_and a b < 2 ^ k
    go n = omega arith

    step : (i : ℕ) → i < k → Digit (bit a i) → Digit (bit b i) → bit_and (bit a i) (bit b i) ≡ 0
    step i l (off e) d = rw e (and_zero_l (bit b i))
    step i l (on e) (off g) = rw g (and_zero_r (bit a i))
    step i l (on e) (on g) = absurd (f i l e g)

-- a number that is not 0 has a bit
pub some_bit : (k w : ℕ) → w < 2 ^ k → (w ≡ 0 → ⊥) → ((i : ℕ) → i < k → bit w i ≡ 1 → ⊥) → ⊥
some_bit k w h n f = n (ext k h (pow_pos k) (λ i l. step i l (digit w i) ∙ sym (bit_nought i)))
  where
    step : (i : ℕ) → i < k → Digit (bit w i) → bit w i ≡ 0
    step i l (off e) = e
    step i l (on e) = absurd (f i l e)

-- ---- or

pub or_left : (a b i : ℕ) → bit a i ≡ 1 → bit (bit_or a b) i ≡ 1
or_left a b i e = bit_or_lem a b i ∙ step (digit b i)
  where
    step : Digit (bit b i) → bit_or (bit a i) (bit b i) ≡ 1
    step (off g) = rw (e, g)
    step (on g) = rw (e, g)

pub or_right : (a b i : ℕ) → bit b i ≡ 1 → bit (bit_or a b) i ≡ 1
or_right a b i e = bit_or_lem a b i ∙ step (digit a i)
  where
    step : Digit (bit a i) → bit_or (bit a i) (bit b i) ≡ 1
    step (off g) = rw (e, g)
    step (on g) = rw (e, g)

-- an or is 0 exactly where both are
pub or_none : (a b : ℕ) → (bit_or a b ≡ 0 → (a ≡ 0) × (b ≡ 0)) × ((a ≡ 0) × (b ≡ 0) → bit_or a b ≡ 0)
or_none a b = (λ e. (omega (arith, or_add_and a b, and_le_r a b), omega (arith, or_add_and a b, and_le_l a b)), λ e. rw (e.0, e.1))

-- a word and an or have no bit in common exactly where it has none with either
module _ (k x a b : ℕ) (h : x < 2 ^ k) where
  pub misses_or : bit_and x a ≡ 0 → bit_and x b ≡ 0 → bit_and x (bit_or a b) ≡ 0
  misses_or p q = apart k x (bit_or a b) h (λ i l e g. step i e (sym (bit_or_lem a b i) ∙ g) (digit a i) (digit b i))
    where
      step : (i : ℕ) → bit x i ≡ 1 → bit_or (bit a i) (bit b i) ≡ 1 → Digit (bit a i) → Digit (bit b i) → ⊥
      step i e g (on d) c = shared x a i e d p
      step i e g (off d) (on c) = shared x b i e c q
      step i e g (off d) (off c) = let z : ◌≡◌ {A = ℕ} 0 1 = ap₂ (λ (x y : ℕ). bit_or x y) (sym d) (sym c) ∙ g in omega arith

  pub misses_left : bit_and x (bit_or a b) ≡ 0 → bit_and x a ≡ 0
  misses_left e = apart k x a h (λ i l p q. shared x (bit_or a b) i p (or_left a b i q) e)

  pub misses_right : bit_and x (bit_or a b) ≡ 0 → bit_and x b ≡ 0
  misses_right e = apart k x b h (λ i l p q. shared x (bit_or a b) i p (or_right a b i q) e)

-- ---- or goes through a map that moves bits

pub or_through : {f : ℕ → ℕ} → Moves 64 f → (a b : ℕ) → a < 2 ^ 64 → b < 2 ^ 64 → f (bit_or a b) ≡ bit_or (f a) (f b)
or_through {f} m a b h l =
    ext 64 (m.fits (bit_or a b) (or_lt 64 a b h l)) (or_lt 64 (f a) (f b) (m.fits a h) (m.fits b l))
    (λ i p. m.from (bit_or a b) (or_lt 64 a b h l) i p ∙ bit_or_lem a b (m.place i)
    ∙ ap₂ (λ (x y : ℕ). bit_or x y) (sym (m.from a h i p)) (sym (m.from b l i p)) ∙ sym (bit_or_lem (f a) (f b) i))

-- a shift of an or is the or of the shifted words
pub or_shifted : (s : Shift) → Valid s → (a b : ℕ) → a < 2 ^ 64 → b < 2 ^ 64 → apply_of s (bit_or a b) ≡ bit_or (apply_of s a) (apply_of s b)
or_shifted s h = or_through (moves s.variant s.amount h)

-- ---- words that have a bit in common with the same words are equal

module _ (a b : ℕ) (ha : a < 2 ^ 64) (hb : b < 2 ^ 64) where
  -- the complement of b has no bit in common with b, so none with a
  under-by : ((x : ℕ) → x < 2 ^ 64 → bit_and x b ≡ 0 → bit_and x a ≡ 0) → (i : ℕ) → i < 64 → bit a i ≡ 1 → bit b i ≡ 1
  under-by f i l e = step (digit b i)
    where
      rest : ℕ
      rest = 2 ^ 64 - 1 - b

      rest_lt : rest < 2 ^ 64
      rest_lt = ones_sub-lt 64 b

      none : bit_and rest b ≡ 0
      none = apart 64 rest b rest_lt (λ j k p q. let z : bit rest j ≡ 1 - bit b j = bit_not 64 b j hb k in omega arith)

      step : Digit (bit b i) → bit b i ≡ 1
      step (on d) = d
      step (off d) = let z : bit rest i ≡ 1 - bit b i = bit_not 64 b i hb l in absurd (shared rest a i (omega arith) e (f rest rest_lt none))

pub same_by : (a b : ℕ) → a < 2 ^ 64 → b < 2 ^ 64 → ((x : ℕ) → x < 2 ^ 64 → bit_and x b ≡ 0 → bit_and x a ≡ 0) → ((x : ℕ) → x < 2 ^ 64 → bit_and x a ≡ 0 → bit_and x b ≡ 0)
    → a ≡ b
same_by a b ha hb f g = ext 64 ha hb (λ i l. step i l (digit a i) (digit b i))
  where
    step : (i : ℕ) → i < 64 → Digit (bit a i) → Digit (bit b i) → bit a i ≡ bit b i
    step i l (on d) e = d ∙ sym (under-by a b ha hb f i l d)
    step i l (off d) (off e) = d ∙ sym e
    step i l (off d) (on e) = under-by b a hb ha g i l e ∙ sym e
