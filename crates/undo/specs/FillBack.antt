-- Filling back (01, "Strength of the contracts": "Filling back is stated over the original definitions, never the program's order").
--
--   Agree p c w v       v is w but for the uncommitted defined wires of p; c is the set of committed wires
--   FillsBack p c w v   and each of those has the value of its definition in v
--   fill_back p c w      filling back as a function
--   Assignment p ws     a word for each wire
--   Overwritten         two lists of words that agree but for the uncommitted defined wires
--   FilledBack          one list of words is the other filled back; filled_list, the list that filling back gives
--
-- Assumes nothing.
use Rattle.std.specs.Prelude.{◌≡◌, ℕ, zero, suc, ◌<◌, ◌^◌, Bool, List, map, length}
use Rattle.std.proofs.Math.Option.{Option, none, some}
use Rattle.operand.specs.Numbers.{Operand}
use Rattle.lower.specs.Lists.{All}
use Rattle.lower.specs.Model.{System}
use Rattle.lower.specs.Values.{value, word_of}
use Rattle.patch.specs.Lists.{up_to}
use Rattle.patch.specs.Patch.{inlined, depth}

-- "a word is 64 bits"
abbrev pub IsWord : ℕ → Type 0
IsWord x = x < 2 ^ 64

-- by any choice D of definitions to fill from; n bounds how deep they go
abbrev pub fill_by : (ℕ → ℕ) → ℕ → Option Operand → ℕ
fill_by v x none = x
fill_by v x (some rhs) = value v rhs

abbrev pub fill : (ℕ → Option Operand) → ℕ → (ℕ → ℕ) → ℕ → ℕ
fill D zero w i = w i
fill D (suc n) w i = fill_by (λ j. fill D n w j) (w i) (D i)

-- "one word a wire"
pub record Assignment (p : System) (ws : List ℕ) : Type 0 where
  pub as_long : length ws ≡ p.wires
  pub all_words : All IsWord ws

module _ (p : System) (c : ℕ → Bool) where
  abbrev pub Agree : (w v : ℕ → ℕ) → Type 0
  Agree w v = (i : ℕ) → inlined p c i ≡ none → v i ≡ w i

  pub record FillsBack (w v : ℕ → ℕ) : Type 0 where
    pub others : Agree w v
    pub filled : (i : ℕ) (rhs : Operand) → inlined p c i ≡ some rhs → v i ≡ value v rhs

  unfoldable pub fill_back : (ℕ → ℕ) → ℕ → ℕ
  fill_back = fill (inlined p c) (depth p c)

  abbrev pub Overwritten : (ws vs : List ℕ) → Type 0
  Overwritten ws vs = Agree (word_of ws) (word_of vs)

  abbrev pub FilledBack : (ws vs : List ℕ) → Type 0
  FilledBack ws vs = FillsBack (word_of ws) (word_of vs)

  unfoldable pub filled_list : List ℕ → List ℕ
  filled_list ws = map (fill_back (word_of ws)) (up_to p.wires)
