-- Shifts, their numbers and what they do (01, "Shifts").
--
--   variant_number v   the variant's number, 0 to 7
--   variant_at k       the variant of a number below 8
--   width_of, cyclic_of width and cyclic kind of a variant; row_of, both: a row of the eight-row table
--   by v n            the shift of variant v and amount n
--   Valid, valid      the amount is below the width: as a fact, and as a test
--   identity          sll 0, the canonical identity
--   number_of s        the number of a valid shift
--   valid_number n     the number n is that of a valid shift, shift_at n
--   shifted v n w     the word w shifted by n
--   apply_of s w       the word w shifted by s
--
-- Assumes nothing.
use Rattle.std.specs.Prelude.{ℕ, ◌+◌, ◌*◌, ◌/◌, ◌%◌, ◌<◌, Bool, true, false, ◌&&◌, [], ◌∷◌, ltb, get_or}
use Rattle.word.specs.Word.{left, right, arith_right, turn, halves}
use Rattle.shift.specs.declared.ShiftVariant.{ShiftVariant}
use Rattle.shift.specs.declared.ShiftVariant.TheVariants.{Sll, Slr, Sar, Rotr, Sll32, Srl32, Sra32, Rotr32}
use Rattle.shift.specs.declared.Shift.{Shift}
use Rattle.shift.specs.declared.Row.{Row}

-- "Variants 0 to 7: sll, slr, sar, rotr, sll32, srl32, sra32, rotr32"
abbrev pub variant_number : ShiftVariant → ℕ
variant_number Sll = 0
variant_number Slr = 1
variant_number Sar = 2
variant_number Rotr = 3
variant_number Sll32 = 4
variant_number Srl32 = 5
variant_number Sra32 = 6
variant_number Rotr32 = 7

abbrev pub variant_at : ℕ → ShiftVariant
variant_at k = get_or (Sll ∷ Slr ∷ Sar ∷ Rotr ∷ Sll32 ∷ Srl32 ∷ Sra32 ∷ Rotr32 ∷ []) k Sll

-- "width 64 for the first four, 32 for the others"
abbrev pub width_of : ShiftVariant → ℕ
width_of Sll = 64
width_of Slr = 64
width_of Sar = 64
width_of Rotr = 64
width_of Sll32 = 32
width_of Srl32 = 32
width_of Sra32 = 32
width_of Rotr32 = 32

-- "the two rotations are cyclic"
abbrev pub cyclic_of : ShiftVariant → Bool
cyclic_of Sll = false
cyclic_of Slr = false
cyclic_of Sar = false
cyclic_of Rotr = true
cyclic_of Sll32 = false
cyclic_of Srl32 = false
cyclic_of Sra32 = false
cyclic_of Rotr32 = true

abbrev pub row_of : ShiftVariant → Row
row_of v = record { width = width_of v; cyclic = cyclic_of v }

abbrev pub by : ShiftVariant → ℕ → Shift
by v n = record { variant = v; amount = n }

-- "A shift is valid if its amount is below its width"
abbrev pub Valid : Shift → Type 0
Valid s = s.amount < width_of s.variant

abbrev pub valid : Shift → Bool
valid s = ltb s.amount (width_of s.variant)

-- "Amount 0 of any variant is an identity; the canonical one is sll 0"
abbrev pub identity : Shift
identity = by Sll 0

-- "Its number is 64 x variant + amount"
abbrev pub number_of : Shift → ℕ
number_of s = 64 * variant_number s.variant + s.amount

abbrev pub shift_at : ℕ → Shift
shift_at n = by (variant_at (n / 64)) (n % 64)

-- "`from_index` in Rust accepts half-word amounts 32 to 63; here they are refused"
abbrev pub valid_number : ℕ → Bool
valid_number n = ltb n 512 && valid (shift_at n)

-- "sll and slr drop bits and fill with zero. sar divides the word .. rotr turns right. The half-word four do the same to each 32-bit half apart"
unfoldable pub shifted : ShiftVariant → ℕ → ℕ → ℕ
unfolding arith_right turn halves
shifted Sll n w = left 64 n w
shifted Slr n w = right n w
shifted Sar n w = arith_right 64 n w
shifted Rotr n w = turn 64 n w
shifted Sll32 n w = halves (left 32 n) w
shifted Srl32 n w = halves (right n) w
shifted Sra32 n w = halves (arith_right 32 n) w
shifted Rotr32 n w = halves (turn 32 n) w

abbrev pub apply_of : Shift → ℕ → ℕ
apply_of s w = shifted s.variant s.amount w
