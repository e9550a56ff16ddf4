-- The committed wires, one to a line.
--
--   committed_from i fs   the wires of flags that are not 0, rising, the first flag being that of wire i
--   flag_text f w         the line of wire w where its flag f is not 0
--   Lines                what is answered and left where they are put: 6 where there are more flags than a system has wires
--
-- Assumes nothing.
use Rattle.std.specs.Prelude.{ℕ, suc, ◌≤◌, ◌<◌, cond, List, [], ◌∷◌, eqb, length, Result, Ok, Err}
use Rattle.lower.specs.Accepted.{MAX_WIRES}
use Rattle.refusal.specs.declared.Refusal.{Refusal}
use Rattle.refusal.specs.declared.Refusal.TheVariants.{Full}
use Rattle.text.specs.Text.{line_text, lines_text, Puts}

unfoldable pub committed_from : ℕ → List ℕ → List ℕ
committed_from i [] = []
committed_from i (f ∷ fs) = cond (eqb f 0) (committed_from (suc i) fs) (i ∷ committed_from (suc i) fs)

abbrev pub flag_text : ℕ → ℕ → List ℕ
flag_text f w = cond (eqb f 0) [] (line_text w)

pub data Lines (flags out : List ℕ) : Result ℕ Refusal → List ℕ → Type 0 where
  many : MAX_WIRES < length flags → Lines flags out (Err Full) out
  few : {r : Result ℕ Refusal} {out' : List ℕ} → length flags ≤ MAX_WIRES → Puts (lines_text (committed_from 0 flags)) out r out' → Lines flags out r out'
