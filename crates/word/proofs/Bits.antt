-- The bits of a number: of a quotient, a remainder, a multiple, a sum, a complement and an xor, and that its bits make it.
-- Assumes nothing.
use mathlib.Core.Path.{◌≡◌, sym, ap, ◌∙◌}
use Prim.Native.Nat.{ℕ, zero, suc, ◌+◌, ◌-◌, ◌*◌, ◌/◌, ◌%◌, ◌^◌, ◌≤◌, ◌<◌}
use native.Mathlib.Nat.{div-eq_of_lt, lt_of_lt_of_le, div-one}
use native.Mathlib.Numerals.{one-add}
use native.Mathlib.Omega.{arith}
use lib.Pow.{pow_mono, pow_pos, shr-shr, field, mod-mod-pow, high, low}
use lib.Arith.{lt-one}
use lib.Bits.{bit_xor, xor_shr, xor_mod}

-- bit i of w, 0 or 1
abbrev pub bit : ℕ → ℕ → ℕ
bit w i = w / 2 ^ i % 2

pub bit_suc : (w i : ℕ) → bit w (suc i) ≡ bit (w / 2) i
bit_suc w i = ap (λ (x : ℕ). w / 2 ^ x % 2) (sym (one-add i)) ∙ ap (λ (x : ℕ). x % 2) (sym (shr-shr w 1 i))

pub bit_zero : (w : ℕ) → bit w 0 ≡ w % 2
bit_zero w = ap (λ (x : ℕ). x % 2) (div-one w)

pub bit_lt : (w i : ℕ) → bit w i < 2
bit_lt w i = omega arith

-- two numbers of k bits are equal where their bits are
pub ext : (k : ℕ) {a b : ℕ} → a < 2 ^ k → b < 2 ^ k → ((i : ℕ) → i < k → bit a i ≡ bit b i) → a ≡ b
ext zero h l e = lt-one h ∙ sym (lt-one l)
ext (suc k) {a} {b} h l e =
    let halves : a / 2 ≡ b / 2 = ext k (omega arith) (omega arith) (λ i j. sym (bit_suc a i) ∙ e (suc i) (omega arith) ∙ bit_suc b i) in
    let ends : a % 2 ≡ b % 2 = sym (bit_zero a) ∙ e 0 (omega arith) ∙ bit_zero b in
    omega arith

pub bit_shr : (w n i : ℕ) → bit (w / 2 ^ n) i ≡ bit w (n + i)
bit_shr w n i = ap (λ (x : ℕ). x % 2) (shr-shr w n i)

-- a number of k bits has no bit at k or above
pub bit_none : {w : ℕ} (k i : ℕ) → w < 2 ^ k → k ≤ i → bit w i ≡ 0
bit_none k i h l = ap (λ (x : ℕ). x % 2) (div-eq_of_lt (lt_of_lt_of_le h (pow_mono l)))

pub bit_mod : (w k i : ℕ) → i < k → bit (w % 2 ^ k) i ≡ bit w i
bit_mod w k i h = go (k - suc i) (omega arith)
  where
    go : (j : ℕ) → suc j + i ≡ k → bit (w % 2 ^ k) i ≡ bit w i
    go j e =
        ap (λ (x : ℕ). w % 2 ^ x / 2 ^ i % 2) (sym e) ∙ ap (λ (x : ℕ). x % 2) (field w (suc j) i)
        ∙ ap (λ (x : ℕ). w / 2 ^ i % 2 ^ x % 2) (omega arith) ∙ mod-mod-pow (w / 2 ^ i) j 1

pub bit_low : (a k : ℕ) {r : ℕ} (i : ℕ) → r < 2 ^ k → i < k → bit (a * 2 ^ k + r) i ≡ bit r i
bit_low a k {r} i h l = sym (bit_mod (a * 2 ^ k + r) k i l) ∙ ap (λ (x : ℕ). bit x i) (low a k h)

pub bit_high : (a k : ℕ) {r : ℕ} (i : ℕ) → r < 2 ^ k → bit (a * 2 ^ k + r) (k + i) ≡ bit a i
bit_high a k {r} i h = sym (bit_shr (a * 2 ^ k + r) k i) ∙ ap (λ (x : ℕ). bit x i) (high a k h)

pub bit_xor_lem : (a b i : ℕ) → bit (bit_xor a b) i ≡ bit_xor (bit a i) (bit b i)
bit_xor_lem a b i = ap (λ (x : ℕ). x % 2) (xor_shr a b i) ∙ xor_mod (a / 2 ^ i) (b / 2 ^ i) 1

-- the complement of a number of k bits
pub bit_not : (k w i : ℕ) → w < 2 ^ k → i < k → bit (2 ^ k - 1 - w) i ≡ 1 - bit w i
bit_not zero w i h l = elim l [ ]
bit_not (suc k) w zero h l = bit_zero (2 ^ suc k - 1 - w) ∙ omega (arith, bit_zero w, pow_pos k)
bit_not (suc k) w (suc i) h l =
    bit_suc (2 ^ suc k - 1 - w) i
    ∙ ap (λ (x : ℕ). bit x i) (omega (arith, pow_pos k))
    ∙ bit_not k (w / 2) i (omega arith) (omega arith)
    ∙ ap (λ (x : ℕ). 1 - x) (sym (bit_suc w i))
