-- The eight variants: each is the one of its number, and its row of the table is that of the match. Assumes nothing.
use mathlib.Core.Path.{◌≡◌, refl, sym, ap, ◌∙◌}
use mathlib.Core.Bool.{Bool, true, false}
use mathlib.Core.List.{List, [], ◌∷◌}
use Prim.Native.Nat.{ℕ, ◌<◌}
use native.Mathlib.Omega.{arith}
use lib.Dec.{lit<}
use lib.ListN.{get_or}
use borrow.Author.Tests.{eqb-true}
use Rattle.shift.specs.declared.ShiftVariant.{ShiftVariant}
use Rattle.shift.specs.declared.ShiftVariant.TheVariants.{Sll, Slr, Sar, Rotr, Sll32, Srl32, Sra32, Rotr32}
use Rattle.shift.specs.declared.Row.{Row}
use Rattle.shift.specs.Shifts.{variant_number, variant_at, width_of, row_of}
use Rattle.shift.specs.Compose.{same}

pub number_lt : (v : ShiftVariant) → variant_number v < 8
number_lt Sll = lit< tt
number_lt Slr = lit< tt
number_lt Sar = lit< tt
number_lt Rotr = lit< tt
number_lt Sll32 = lit< tt
number_lt Srl32 = lit< tt
number_lt Sra32 = lit< tt
number_lt Rotr32 = lit< tt

pub at_number : (v : ShiftVariant) → variant_at (variant_number v) ≡ v
at_number Sll = refl
at_number Slr = refl
at_number Sar = refl
at_number Rotr = refl
at_number Sll32 = refl
at_number Srl32 = refl
at_number Sra32 = refl
at_number Rotr32 = refl

pub one_variant : (a b : ShiftVariant) → same a b ≡ true → a ≡ b
one_variant a b t = sym (at_number a) ∙ ap variant_at (eqb-true (variant_number a) (variant_number b) t) ∙ at_number b

pub width_le : (v : ShiftVariant) (n : ℕ) → n < width_of v → n < 64
width_le Sll n h = h
width_le Slr n h = h
width_le Sar n h = h
width_le Rotr n h = h
width_le Sll32 n h = omega arith
width_le Srl32 n h = omega arith
width_le Sra32 n h = omega arith
width_le Rotr32 n h = omega arith

abbrev row : ℕ → Bool → Row
row n b = record { width = n; cyclic = b }

-- the program's table
abbrev pub rows : List Row
rows = row 64 false ∷ row 64 false ∷ row 64 false ∷ row 64 true ∷ row 32 false ∷ row 32 false ∷ row 32 false ∷ row 32 true ∷ []

-- its rows are those of the match
pub tied : (v : ShiftVariant) (d : Row) → get_or rows (variant_number v) d ≡ row_of v
tied Sll d = refl
tied Slr d = refl
tied Sar d = refl
tied Rotr d = refl
tied Sll32 d = refl
tied Srl32 d = refl
tied Sra32 d = refl
tied Rotr32 d = refl
