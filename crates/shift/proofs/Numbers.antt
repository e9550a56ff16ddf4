-- A valid shift and its number are one. Assumes nothing.
use mathlib.Core.Path.{◌≡◌, refl, ap, ◌∙◌}
use mathlib.Core.Bool.{Bool, true, false, ◌&&◌}
use Prim.Native.Nat.{ℕ, ◌/◌, ◌%◌, ◌<◌}
use native.Mathlib.Omega.{arith}
use lib.Dec.{ltb, eqb, eqb→eq}
use borrow.Author.Tests.{lt-ltb, ltb-true}
use Rattle.word.proofs.Probes.{below}
use Rattle.shift.specs.declared.Shift.{Shift}
use Rattle.shift.specs.Shifts.{variant_number, variant_at, width_of, Valid, valid, number_of, shift_at, valid_number}
use Rattle.shift.proofs.Variants.{number_lt, at_number, width_le}

module _ (s : Shift) (h : Valid s) where
  high : number_of s / 64 ≡ variant_number s.variant
  high = let n : s.amount < 64 = width_le s.variant s.amount h in omega arith

  low : number_of s % 64 ≡ s.amount
  low = let n : s.amount < 64 = width_le s.variant s.amount h in omega arith

  -- the shift of its number is it
  pub number-back : shift_at (number_of s) ≡ s
  number-back = rw (high, low, at_number s.variant)

  -- and that number is valid
  pub number-valid : valid_number (number_of s) ≡ true
  number-valid =
      let k : variant_number s.variant < 8 = number_lt s.variant in
      let n : s.amount < 64 = width_le s.variant s.amount h in
      rw (lt-ltb (number_of s) 512 (omega arith)) (ap valid number-back ∙ lt-ltb s.amount (width_of s.variant) h)

both : (a b : Bool) → (a && b) ≡ true → (a ≡ true) × (b ≡ true)
both true b t = (refl, t)
both false b t = let z : ◌≡◌ {A = ℕ} 0 1 = cc in absurd (omega arith)

-- a valid number is below 512, and its shift is valid
pub valid-low : (n : ℕ) → valid_number n ≡ true → n < 512
valid-low n e = ltb-true n 512 (both (ltb n 512) (valid (shift_at n)) e).0

pub valid_at : (n : ℕ) → valid_number n ≡ true → Valid (shift_at n)
valid_at n e = ltb-true (shift_at n).amount (width_of (shift_at n).variant) (both (ltb n 512) (valid (shift_at n)) e).1

-- a number is that of its shift
pub number_there : (n : ℕ) → valid_number n ≡ true → number_of (shift_at n) ≡ n
number_there n e =
    let h : n < 512 = valid-low n e in
    let k : variant_number (variant_at (n / 64)) ≡ n / 64 = eqb→eq _ _ (below (λ k. eqb (variant_number (variant_at k)) k) 8 tt (n / 64) (omega arith)) in
    omega arith
