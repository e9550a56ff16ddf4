-- A valid shift moves bits: so it is linear over xor, takes 0 to 0 and words to words, and by 0 leaves every word. Assumes nothing.
use mathlib.Core.Path.{◌≡◌, ap, ◌∙◌, subst}
use Prim.Native.Nat.{ℕ, ◌^◌, ◌<◌}
use native.Mathlib.Omega.{arith}
use lib.Dec.{T}
use lib.Bits.{bit_xor}
use Rattle.word.specs.Word.{signed, floor_div, unsigned, arith_right, turn, halves}
use Rattle.word.proofs.Moves.{Moves, left_moves, right_moves, arith_moves, turn_moves, halves_moves, same_moves}
use Rattle.word.proofs.Probes.{agree, same, xor_through, zero-through}
use Rattle.shift.specs.declared.ShiftVariant.{ShiftVariant}
use Rattle.shift.specs.declared.ShiftVariant.TheVariants.{Sll, Slr, Sar, Rotr, Sll32, Srl32, Sra32, Rotr32}
use Rattle.shift.specs.declared.Shift.{Shift}
use Rattle.shift.specs.Shifts.{width_of, Valid, shifted, apply_of}

pub moves : (v : ShiftVariant) (n : ℕ) → n < width_of v → Moves 64 (shifted v n)
unfolding shifted
moves Sll n h = left_moves 64 n
moves Slr n h = right_moves 64 n
moves Sar n h = arith_moves 64 n (omega arith)
moves Rotr n h = turn_moves 64 n h
moves Sll32 n h = halves_moves (left_moves 32 n)
moves Srl32 n h = halves_moves (right_moves 32 n)
moves Sra32 n h = halves_moves (arith_moves 32 n (omega arith))
moves Rotr32 n h = halves_moves (turn_moves 32 n h)

still_test : (v : ShiftVariant) → T (agree (shifted v 0) (λ w. w))
unfolding shifted signed floor_div unsigned arith_right turn halves
still_test Sll = tt
still_test Slr = tt
still_test Sar = tt
still_test Rotr = tt
still_test Sll32 = tt
still_test Srl32 = tt
still_test Sra32 = tt
still_test Rotr32 = tt

module _ (s : Shift) (h : Valid s) where
  -- a shifted word is a word
  pub shifted_lt : (w : ℕ) → w < 2 ^ 64 → apply_of s w < 2 ^ 64
  shifted_lt = (moves s.variant s.amount h).fits

  -- a shift of an xor is the xor of the shifted words
  pub xor_shifted : (a b : ℕ) → a < 2 ^ 64 → b < 2 ^ 64 → apply_of s (bit_xor a b) ≡ bit_xor (apply_of s a) (apply_of s b)
  xor_shifted = xor_through (moves s.variant s.amount h)

  pub zero-shifted : apply_of s 0 ≡ 0
  zero-shifted = zero-through (moves s.variant s.amount h)

  -- an identity leaves every word
  pub still : s.amount ≡ 0 → (w : ℕ) → w < 2 ^ 64 → apply_of s w ≡ w
  still e w l =
      ap (λ (n : ℕ). shifted s.variant n w) e
      ∙ same (moves s.variant 0 (subst (λ (n : ℕ). n < width_of s.variant) e h)) same_moves (still_test s.variant) w l
