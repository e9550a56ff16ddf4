-- Numbers in decimal, as the bytes of a text.
--
--   digit d         the byte of a number below 10: 48 is `0`
--   decimal n       the digits of n, the highest first, and none in front that is 0 but where n is 0
--   value_of ds      the number that digits say
--
-- Assumes nothing.
use Rattle.std.specs.Prelude.{ℕ, zero, suc, ◌+◌, ◌*◌, ◌-◌, ◌/◌, ◌%◌, cond, List, [], ◌∷◌, ◌++◌, ltb}

abbrev pub digit : ℕ → ℕ
digit d = 48 + d

-- k is no less than the digits that are left
unfoldable pub decimal_by : ℕ → ℕ → List ℕ
decimal_by zero n = digit n ∷ []
decimal_by (suc k) n = cond (ltb n 10) (digit n ∷ []) (decimal_by k (n / 10) ++ (digit (n % 10) ∷ []))

unfoldable pub decimal : ℕ → List ℕ
decimal n = decimal_by n n

-- the number that the digits say, v standing before them
unfoldable pub value_from : ℕ → List ℕ → ℕ
value_from v [] = v
value_from v (d ∷ ds) = value_from (10 * v + (d - 48)) ds

abbrev pub value_of : List ℕ → ℕ
value_of ds = value_from 0 ds
