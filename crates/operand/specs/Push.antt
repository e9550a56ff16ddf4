-- Folding one more shift inside a sequence of two (01, "Shifts": "push_inner", and operand.rs, which decides).
--
--   lone_of s             the sequence of one shift
--   fold_outer m o        the inner slot holds m: it may be within reach of the outer one
--   keep_both i o s n     the shift and the inner one need a slot each
--   push_valid i o s n    the sequence i, o with s folded in as the new innermost shift, n being the slots
--   pushed               what `push_inner` answers: an invalid shift is refused, also where an early answer would not look at it
--   values, told_pushed   number and values of each case: 0 and the two shifts' numbers for Seq, 1 for Zero, 2 for OverBudget
--   PushRight i o s p    what the answer p claims
--   Canonical a b        the spellings that a push leaves; Spelt p, that the answer p has one of them
--
-- Assumes nothing.
use Rattle.std.specs.Prelude.{ℕ, ◌<◌, ◌^◌, ◌≡◌, cond, ◌&&◌, List, [], ◌∷◌, leb, eqb, Result, Ok, Err}
use Rattle.refusal.specs.declared.Refusal.{Refusal}
use Rattle.refusal.specs.declared.Refusal.TheVariants as R
use Rattle.word.specs.Answers.{Told, told_by}
use Rattle.shift.specs.declared.Shift.{Shift}
use Rattle.shift.specs.declared.Composition.{Composition}
use Rattle.shift.specs.declared.Composition.TheVariants as C
use Rattle.shift.specs.Shifts.{valid, Valid, identity, number_of, apply_of}
use Rattle.shift.specs.Compose.{compose_valid}
use Rattle.operand.specs.declared.PushInner.{PushInner}
use Rattle.operand.specs.declared.PushInner.TheVariants.{Seq, Zero, OverBudget}

-- operand.rs: "the shift inner, and an identity spelled one way"
abbrev pub lone_of : Shift → PushInner
lone_of s = cond (eqb s.amount 0) (Seq identity identity) (Seq s identity)

abbrev pub second_fold : Shift → Shift → Composition → PushInner
second_fold m o (C.Single s) = lone_of s
second_fold m o C.Zero = Zero
second_fold m o C.Pair = Seq m o

abbrev pub fold_outer : Shift → Shift → PushInner
fold_outer m o = second_fold m o (compose_valid m o)

-- "0 answers as 1 does, 3 and more as 2"
abbrev pub keep_both : Shift → Shift → Shift → ℕ → PushInner
keep_both i o s slots = cond (leb 2 slots && eqb o.amount 0) (Seq s i) OverBudget

abbrev pub first_fold : Shift → Shift → Shift → ℕ → Composition → PushInner
first_fold i o s slots (C.Single m) = fold_outer m o
first_fold i o s slots C.Zero = Zero
first_fold i o s slots C.Pair = keep_both i o s slots

unfoldable pub push_valid : Shift → Shift → Shift → ℕ → PushInner
push_valid i o s slots = first_fold i o s slots (compose_valid s i)

-- "Handed an invalid shift .. `push_inner` answer 4"
abbrev pub pushed : Shift → Shift → Shift → ℕ → Result PushInner Refusal
pushed i o s slots = cond (valid i && (valid o && valid s)) (Ok (push_valid i o s slots)) (Err R.Shift)

abbrev pub values : PushInner → List ℕ
values (Seq a b) = 0 ∷ number_of a ∷ number_of b ∷ []
values Zero = 1 ∷ []
values OverBudget = 2 ∷ []

abbrev pub told_pushed : Result PushInner Refusal → Told
told_pushed = told_by values

-- the shifts of a Seq are valid, and have the meaning of s, then i, then o; at Zero the three clear every word
abbrev pub PushRight : Shift → Shift → Shift → PushInner → Type 0
PushRight i o s (Seq a b) = Valid a × Valid b × ((w : ℕ) → w < 2 ^ 64 → apply_of b (apply_of a w) ≡ apply_of o (apply_of i (apply_of s w)))
PushRight i o s Zero = (w : ℕ) → w < 2 ^ 64 → apply_of o (apply_of i (apply_of s w)) ≡ 0
PushRight i o s OverBudget = Unit

-- two identities spelt sll 0; or one shift and sll 0; or two shifts, no identities, that do not compose
pub data Canonical : Shift → Shift → Type 0 where
  unshifted : Canonical identity identity
  singly : {a : Shift} → 0 < a.amount → Canonical a identity
  doubly : {a b : Shift} → 0 < a.amount → 0 < b.amount → compose_valid a b ≡ C.Pair → Canonical a b

abbrev pub Spelt : PushInner → Type 0
Spelt (Seq a b) = Canonical a b
Spelt Zero = Unit
Spelt OverBudget = Unit
