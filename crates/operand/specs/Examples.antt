-- The starred examples (01, "Examples to hold"), as one list.
--
--   Example     a call of compose or push_inner and its answer
--   Holds, All  that the written meanings give that answer; that all of a list do
--   examples    the rows of 01 in their order
--
-- Assumes nothing.
use Rattle.std.specs.Prelude.{ℕ, ◌≡◌, List, [], ◌∷◌, Ok}
use Rattle.shift.specs.declared.ShiftVariant.TheVariants.{Sll, Slr, Sar, Rotr, Sll32, Srl32, Sra32}
use Rattle.shift.specs.declared.Shift.{Shift}
use Rattle.shift.specs.declared.Composition.{Composition}
use Rattle.shift.specs.declared.Composition.TheVariants.{Single, Zero, Pair}
use Rattle.shift.specs.Shifts.{by, identity}
use Rattle.shift.specs.Answers.{composed}
use Rattle.operand.specs.declared.PushInner.{PushInner}
use Rattle.operand.specs.declared.PushInner.TheVariants.{Seq}
use Rattle.operand.specs.Push.{pushed}

pub data Example : Type 0 where
  composes : Shift → Shift → Composition → Example
  pushes : Shift → Shift → Shift → ℕ → PushInner → Example

abbrev pub Holds : Example → Type 0
Holds (composes i o c) = composed i o ≡ Ok c
Holds (pushes i o s n p) = pushed i o s n ≡ Ok p

abbrev pub All : List Example → Type 0
All [] = Unit
All (e ∷ es) = Holds e × All es

abbrev pub examples : List Example
examples =
    composes (by Slr 32) (by Sra32 5) Pair
    ∷ composes (by Slr 33) (by Sra32 5) (Single (by Slr 38))
    ∷ composes (by Rotr 32) (by Rotr 32) (Single (by Sll 0))
    ∷ composes (by Sll 40) (by Sll 23) (Single (by Sll 63))
    ∷ composes (by Sll 40) (by Sll 24) Zero
    ∷ composes (by Sar 40) (by Sar 40) (Single (by Sar 63))
    ∷ composes (by Sar 62) (by Rotr 5) Pair
    ∷ composes (by Sar 63) (by Rotr 5) (Single (by Sar 63))
    ∷ composes (by Srl32 1) (by Sar 32) (Single (by Slr 33))
    ∷ composes (by Srl32 1) (by Sar 31) Pair
    ∷ pushes (by Sll 1) (by Sll32 11) (by Sll 31) 2 (Seq (by Sll 43) identity)
    ∷ []
