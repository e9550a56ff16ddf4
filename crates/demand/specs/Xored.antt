-- Two assignments xored word by word, for the laws that values and filling back add.
--
--   xored ws vs     the xor of the two words at each place of both
--
-- Assumes nothing.
use Rattle.std.specs.Prelude.{ℕ, List, [], ◌∷◌}
use Rattle.std.specs.Int.Bits.{bit_xor}

unfoldable pub xored : List ℕ → List ℕ → List ℕ
xored [] vs = []
xored (w ∷ ws) [] = []
xored (w ∷ ws) (v ∷ vs) = bit_xor w v ∷ xored ws vs
