-- Filling back as a program does it: one definition after the other, in place.
--
--   fill_one p c ws d    the words ws with the wire of the definition d filled, unless it is committed
--   fill_all p c ds ws   the definitions ds filled, the last of the list first: an order of the walk has each definition before all that it names
--
-- Assumes nothing.
use Rattle.std.specs.Prelude.{ℕ, Bool, cond, List, [], ◌∷◌, set}
use Rattle.lower.specs.Model.{System}
use Rattle.lower.specs.Values.{value, word_of}
use Rattle.legraph.specs.Uses.{rhs_of, dst_of}

unfoldable pub fill_one : System → (ℕ → Bool) → List ℕ → ℕ → List ℕ
fill_one p c ws d = cond (c (dst_of p d)) ws (set ws (dst_of p d) (value (word_of ws) (rhs_of p d)))

unfoldable pub fill_all : System → (ℕ → Bool) → List ℕ → List ℕ → List ℕ
fill_all p c [] ws = ws
fill_all p c (d ∷ ds) ws = fill_one p c (fill_all p c ds ws) d
