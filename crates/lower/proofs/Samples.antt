-- The definitions of the model at one small system: what they give is computed. Assumes nothing.
use mathlib.Core.Path.{◌≡◌, refl}
use mathlib.Core.List.Memᴰ
use mathlib.Core.List.{[], ◌∷◌}
use Prim.Native.Nat.{ℕ}
use Rattle.shift.specs.Shifts.{shifted}
use Rattle.operand.specs.Numbers.{Term}
use Rattle.lower.specs.Model.{System, row_operands, definition_operands}
use Rattle.lower.specs.Values.{value, moved, term_value, word_of, RowHolds, ZeroHolds}
use Rattle.lower.specs.Accepted.{Reaches, names, through}
use Rattle.lower.specs.Faults.{definition_fault}

abbrev term : ℕ → ℕ → Term
term w s = record { wire = w; inner = s; outer = 0 }

-- Zero of wire 2 twice and of wire 1 shifted left by 4; wire 1 is wire 0 shifted right by 8, and wire 2 is wire 1
abbrev sample : System
sample =
    record {
      wires = 3;
      ands = [];
      imuls = [];
      bmuls = [];
      zeros = ((term 2 0 ∷ term 2 0 ∷ term 1 4 ∷ []) ∷ []) ∷ [];
      linears = record { dst = 1; rhs = term 0 72 ∷ [] } ∷ record { dst = 2; rhs = term 1 0 ∷ [] } ∷ [];
    }

-- 0x1234 >> 8 is 0x12, and << 4 it is 0x120; a term twice is nothing
pub sample_value : value (word_of (4660 ∷ 18 ∷ 18 ∷ [])) (term 2 0 ∷ term 2 0 ∷ term 1 4 ∷ []) ≡ 288
unfolding term_value moved shifted
sample_value = refl

pub sample_proper : definition_fault sample ≡ 0
unfolding definition_fault row_operands definition_operands
sample_proper = refl

pub sample_reaches : Reaches sample 2 0
sample_reaches = through {v = 1} (names (term 1 0 ∷ []) (term 1 0) refl (Memᴰ.head refl)) (names (term 0 72 ∷ []) (term 0 72) refl (Memᴰ.head refl))

-- a Zero of two operands, or of none, does not hold, whatever they are worth
pub sample_lacking : RowHolds ZeroHolds (word_of []) [] → ⊥
sample_lacking h = h

pub sample_double : RowHolds ZeroHolds (word_of []) ([] ∷ [] ∷ []) → ⊥
sample_double h = h

pub sample_zero : RowHolds ZeroHolds (word_of []) ([] ∷ [])
sample_zero = refl
