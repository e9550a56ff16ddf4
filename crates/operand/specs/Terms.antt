-- Terms (operand.rs, and 01, "Numbers given back").
--
--   sole_of t     the one shift of a term whose outer shift is an identity
--   told_sole     number and values of each case: a shift by its variant's number and its amount, since one that is not valid has no number;
--                told_one, that it is 10 where the term has two
--
-- Assumes nothing.
use Rattle.std.specs.Prelude.{ℕ, cond, [], ◌∷◌, eqb, Result, Ok, Err}
use Rattle.refusal.specs.declared.Refusal.{Refusal}
use Rattle.refusal.specs.declared.Refusal.TheVariants.{Double}
use Rattle.refusal.specs.Refusals.{number_of}
use Rattle.word.specs.Answers.{Told, given, refused}
use Rattle.shift.specs.declared.Shift.{Shift}
use Rattle.shift.specs.Shifts.{variant_number}
use Rattle.operand.specs.declared.ShiftedWire.{ShiftedWire}

-- "10 | DOUBLE | outer shift not an identity .."
abbrev pub DOUBLE : ℕ
DOUBLE = 10

abbrev pub sole_of : ShiftedWire → Result Shift Refusal
sole_of t = cond (eqb t.outer.amount 0) (Ok t.inner) (Err Double)

abbrev pub parts : Shift → Told
parts s = given (variant_number s.variant ∷ s.amount ∷ [])

abbrev pub told_sole : Result Shift Refusal → Told
told_sole (Ok s) = parts s
told_sole (Err r) = refused (number_of r)

abbrev pub told_one : ShiftedWire → Told
told_one t = cond (eqb t.outer.amount 0) (parts t.inner) (refused DOUBLE)
