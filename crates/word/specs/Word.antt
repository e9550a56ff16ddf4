-- What the shifts do to a word (01, "Shifts": "Meaning").
--
--   a word             a number below 2 ^ 64; its xor is `bit_xor` of the language's library, what `^` means
--   left k n w         the number w of k bits, shifted left by n
--   right n w          w shifted right by n, zeros coming in
--   signed k w         w taken as a signed number of k bits
--   floor_div z m       z divided by m, rounded towards minus infinity
--   unsigned k z       the number of k bits that stands for z
--   arith_right k n w   w, taken as signed, divided by 2 ^ n and rounded towards minus infinity
--   turn k n w         w turned right by n
--   halves f w         f done to each 32-bit half of w apart
--
-- Assumes nothing.
use Rattle.std.specs.Prelude.{ℕ, ◌+◌, ◌-◌, ◌*◌, ◌/◌, ◌%◌, ◌^◌, cond, ltb, ℤ, pos, negsuc}

-- "sll and slr drop bits and fill with zero"
abbrev pub left : ℕ → ℕ → ℕ → ℕ
left k n w = w * 2 ^ n % 2 ^ k

abbrev pub right : ℕ → ℕ → ℕ
right n w = w / 2 ^ n

-- w below half of 2 ^ k, else w - 2 ^ k. (`negsuc a` is -(a + 1).)
unfoldable pub signed : ℕ → ℕ → ℤ
signed k w = cond (ltb w (2 ^ (k - 1))) (pos w) (negsuc (2 ^ k - 1 - w))

unfoldable pub floor_div : ℤ → ℕ → ℤ
floor_div (pos a) m = pos (a / m)
floor_div (negsuc a) m = negsuc (a / m)

-- z, or z + 2 ^ k where z is negative
unfoldable pub unsigned : ℕ → ℤ → ℕ
unsigned k (pos a) = a
unsigned k (negsuc a) = 2 ^ k - 1 - a

-- "sar divides the word, taken as signed, by 2^amount, rounded towards minus infinity"
unfoldable pub arith_right : ℕ → ℕ → ℕ → ℕ
unfolding signed floor_div unsigned
arith_right k n w = unsigned k (floor_div (signed k w) (2 ^ n))

-- "rotr turns right": the n low bits come in at the top
unfoldable pub turn : ℕ → ℕ → ℕ → ℕ
turn k n w = w % 2 ^ n * 2 ^ (k - n) + w / 2 ^ n

-- "The half-word four do the same to each 32-bit half apart"
unfoldable pub halves : (ℕ → ℕ) → ℕ → ℕ
halves f w = f (w / 2 ^ 32) * 2 ^ 32 + f (w % 2 ^ 32)
