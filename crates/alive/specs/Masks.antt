-- Masks: which bits of a word a shift keeps, and where they come from. A shift moves bits, so a set of bits, told by a word, says all.
--
--   ones             every bit
--   back k n m       the bits that an arithmetic shift by n, of numbers of k bits, copies to some bit of m: those n places above, and the
--                    top one where m has a bit that the sign comes to
--   pulled_back v n m the bits of a word that the shift of variant v by n moves to some bit of m
--   pulled s m       the same for the shift s
--
-- Assumes nothing.
use Rattle.std.specs.Prelude.{ℕ, ◌-◌, ◌/◌, ◌%◌, ◌^◌, cond, eqb}
use Rattle.std.specs.Int.Bits.{bit_or}
use Rattle.word.specs.Word.{left, right, turn, halves}
use Rattle.shift.specs.declared.ShiftVariant.{ShiftVariant}
use Rattle.shift.specs.declared.ShiftVariant.TheVariants.{Sll, Slr, Sar, Rotr, Sll32, Srl32, Sra32, Rotr32}
use Rattle.shift.specs.declared.Shift.{Shift}

abbrev pub ones : ℕ
ones = 0xffff_ffff_ffff_ffff

-- "sar divides the word, taken as signed": bit i comes from bit n + i, or from the sign where that is past the word
unfoldable pub back : ℕ → ℕ → ℕ → ℕ
back k n m = bit_or (left k n m) (cond (eqb (m / 2 ^ (k - 1 - n)) 0) 0 (2 ^ (k - 1)))

unfoldable pub pulled_back : ShiftVariant → ℕ → ℕ → ℕ
unfolding back turn halves
pulled_back Sll n m = right n m
pulled_back Slr n m = left 64 n m
pulled_back Sar n m = back 64 n m
pulled_back Rotr n m = turn 64 ((64 - n) % 64) m
pulled_back Sll32 n m = halves (right n) m
pulled_back Srl32 n m = halves (left 32 n) m
pulled_back Sra32 n m = halves (back 32 n) m
pulled_back Rotr32 n m = halves (turn 32 ((32 - n) % 32)) m

abbrev pub pulled : Shift → ℕ → ℕ
pulled s m = pulled_back s.variant s.amount m
