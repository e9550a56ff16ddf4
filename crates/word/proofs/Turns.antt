-- What Rust's `rotate_right` and its signed `>>` do to a word. Assumes nothing.
use mathlib.Core.Path.{◌≡◌, refl, sym, ap, ap₂, ◌∙◌, subst}
use Prim.Native.Nat.{ℕ, suc, ◌+◌, ◌-◌, ◌*◌, ◌/◌, ◌%◌, ◌^◌, ◌≤◌, ◌<◌}
use native.Mathlib.Nat.{mul-mod_left, add-zero, mod-one, div-one, zero-mul, zero-add, mod-eq_of_lt, mod_self, mul-one}
use native.Mathlib.Decide.{ℕ_discrete}
use mir.Syntax.{Width, w8, w16, w32, w64, w128}
use mir.Val.{bits, hbits}
use native.Mathlib.Omega.{arith}
use lib.Pow.{mod-pow-add, shl-shr, shr_lt}
use lib.Bits.{bit_or, or_self, or_shifted_r}
use borrow.Author.Tests.{lt-ltb, le-ltb}
use Rattle.std.specs.Int.{cast_signed, cast_unsigned, int_shr}
use Rattle.word.specs.Word.{turn, arith_right}
use Rattle.word.proofs.Moves.{either, arith-low, arith-high}

pub turn-none : (k w : ℕ) → turn k 0 w ≡ w
unfolding turn
turn-none k w = simp (mod-one, div-one, zero-mul, zero-add)

-- what a left shift leaves of a word's n low bits
low_up : (j n w : ℕ) → w * 2 ^ j % 2 ^ (n + j) ≡ w % 2 ^ n * 2 ^ j
low_up j n w =
    mod-pow-add (w * 2 ^ j) n j
    ∙ ap₂ (λ (x y : ℕ). x % 2 ^ n * 2 ^ j + y) (shl-shr w j) (mul-mod_left w (2 ^ j)) ∙ add-zero (w % 2 ^ n * 2 ^ j)

pub or_turn : (k n w : ℕ) → n ≤ k → w < 2 ^ k → bit_or (w / 2 ^ n) (w * 2 ^ (k - n) % 2 ^ k) ≡ turn k n w
unfolding turn
or_turn k n w h l =
    ap (λ (x : ℕ). bit_or (w / 2 ^ n) (w * 2 ^ (k - n) % 2 ^ x)) (sym e) ∙ ap (bit_or (w / 2 ^ n)) (low_up (k - n) n w)
    ∙ or_shifted_r (w % 2 ^ n) (k - n) (w / 2 ^ n) (shr_lt (k - n) n (subst (λ (x : ℕ). w < 2 ^ x) (sym (omega arith)) l))
  where
    e : n + (k - n) ≡ k
    e = omega arith

-- Rust's `rotate_right`
pub rotate_turn : (k n x : ℕ) → n < k → x < 2 ^ k → bit_or (x / 2 ^ (n % k)) (x * 2 ^ ((k - n % k) % k) % 2 ^ k) ≡ turn k n x
rotate_turn k n x h l = elim (ℕ_discrete n 0) [
  | yes e ↦
      let a : n % k ≡ 0 = mod-eq_of_lt h ∙ e in
      let z : k - 0 ≡ k = omega arith in
      let b : (k - 0) % k ≡ 0 = rw z (mod_self k) in
      rw (a, b, e, turn-none k x, div-one x, mul-one x, mod-eq_of_lt l) (or_self x)
  | no e ↦
      let a : n % k ≡ n = mod-eq_of_lt h in
      let b : (k - n) % k ≡ k - n = mod-eq_of_lt (omega arith) in
      rw (a, b) (or_turn k n x (omega arith) l)
]

half_bits : (w : Width) → hbits w ≡ bits w - 1
half_bits w8 = refl
half_bits w16 = refl
half_bits w32 = refl
half_bits w64 = refl
half_bits w128 = refl

-- Rust's `>>` on a signed number, between the two casts that keep the bits
pub signed_right : (w : Width) (x n : ℕ) → x < 2 ^ bits w → cast_unsigned w (int_shr (cast_signed w x) n) ≡ arith_right (bits w) n x
signed_right w x n l =
    either x (2 ^ hbits w)
    (λ p. rw (lt-ltb x (2 ^ hbits w) p) (sym (arith-low (bits w) n x (rw (half_bits w) at p))))
    (λ p.
    let a : 2 ^ bits w - suc x ≡ 2 ^ bits w - 1 - x = omega arith in
    let b : 2 ^ bits w - suc ((2 ^ bits w - 1 - x) / 2 ^ n) ≡ 2 ^ bits w - 1 - (2 ^ bits w - 1 - x) / 2 ^ n = omega arith in
    rw (le-ltb x (2 ^ hbits w) p, a, b) (sym (arith-high (bits w) n x (rw (half_bits w) at p))))
