-- The paths that patching follows (01, "The patched lists").
--
--   committed x        the decision x is Commit
--   Path p st w i o    "an operand is expanded through its terms, a term through its definition's operand, until a committed or undefined
--                      wire stands": a path has come to the wire w, with the shifts that it has gathered in two slots, i inside o
--
-- A path begins at a term of a constraint that is rebuilt: of an And, Imul, Bmul or Zero, or of a committed definition. It goes on through
-- a definition that is not committed by one of the definition's terms, unless that term is dropped.
--
-- Assumes nothing.
use Rattle.std.specs.Prelude.{◌≡◌, ℕ, ◌<◌, Bool, true, false, length}
use mathlib.Core.List.{Memᴰ}
use Rattle.shift.specs.declared.Shift.{Shift}
use Rattle.shift.specs.Shifts.{shift_at}
use Rattle.operand.specs.declared.PushInner.TheVariants.{Seq}
use Rattle.operand.specs.Push.{push_valid}
use Rattle.operand.specs.Numbers.{Term}
use Rattle.lower.specs.Lists.{joined}
use Rattle.lower.specs.Model.{System, row_operands}
use Rattle.legraph.specs.Uses.{rhs_of, dst_of}
use Rattle.commit_set.specs.declared.Decision.{Decision}
use Rattle.commit_set.specs.declared.Decision.TheVariants.{Commit, Inline}

abbrev pub committed : Decision → Bool
committed Commit = true
committed (Inline c) = false

pub data Path (p : System) (st : ℕ → Decision) : ℕ → Shift → Shift → Type 0 where
  from_constraint : (t : Term) → Memᴰ t (joined (row_operands p)) → Path p st t.wire (shift_at t.inner) (shift_at t.outer)
  from_committed : (t : Term) (e : ℕ) → e < length p.linears → committed (st e) ≡ true → Memᴰ t (rhs_of p e)
      → Path p st t.wire (shift_at t.inner) (shift_at t.outer)
  through : {w : ℕ} {i o i' o' : Shift} (t : Term) (d : ℕ) → Path p st w i o → d < length p.linears → w ≡ dst_of p d → committed (st d) ≡ false
      → Memᴰ t (rhs_of p d) → push_valid i o (shift_at t.inner) 2 ≡ Seq i' o' → Path p st t.wire i' o'
