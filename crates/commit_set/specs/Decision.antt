-- Which definitions commit (01, "The decision", second paragraph), as equations between the definitions' answers.
--
--   Decision         what is decided of a definition: Commit, or Inline with all its uses' contexts joined
--   below c s        the context of a term with the shift s of a definition so decided
--   context_of st u   the context of a use, the definitions being decided as st says
--   contexts_of       the contexts of all uses of a definition
--   some_over n       some use's context plus some term's shift has more than n runs
--   commits          the three grounds on which a definition commits
--   decide           the answer for a definition, from its uses' contexts and its terms' shifts
--   Solves           every definition's answer is the one that the rules give it
--
-- No order of the definitions is named: "A definition is decided after all its uses" is a way to come to the answers.
--
-- Assumes nothing.
use Rattle.std.specs.Prelude.{◌≡◌, ℕ, ◌*◌, ◌<◌, pred, Bool, not, cond, ◌&&◌, ◌||◌, List, map, ltb, eqb, length}
use Rattle.shift.specs.declared.Shift.{Shift}
use Rattle.shift.specs.Shifts.{shift_at}
use Rattle.operand.specs.Numbers.{Term, Operand}
use Rattle.lower.specs.Lists.{some_of}
use Rattle.lower.specs.Model.{System}
use Rattle.legraph.specs.Uses.{User, constraint, definition, Use, uses_of, rhs_of, dst_of}
use Rattle.commit_set.specs.declared.CommitSetCx.{CommitSetCx}
use Rattle.commit_set.specs.declared.Decision.{Decision}
use Rattle.commit_set.specs.declared.Decision.TheVariants.{Commit, Inline}
use Rattle.commit_set.specs.Runs.{plus, join_all, fresh, under}

-- "its greatest depth is above 6"
abbrev pub MAX_DEPTH : ℕ
MAX_DEPTH = 6

-- "(terms - 1) x (uses - 1), each factor at least 0, is above 4"
abbrev pub MAX_TERM_GROWTH : ℕ
MAX_TERM_GROWTH = 4

-- "Terms of a committed definition start afresh with (own shift, depth 0); of another, with all its uses joined, plus own shift, depth + 1"
abbrev pub below : Decision → Shift → CommitSetCx
below Commit s = fresh s
below (Inline c) s = under c s

-- "A use in an And, Imul, Bmul or Zero has the context (its shift, depth 0)"
abbrev pub context_by : (ℕ → Decision) → User → Shift → CommitSetCx
context_by st constraint s = fresh s
context_by st (definition e) s = below (st e) s

abbrev pub context_of : (ℕ → Decision) → Use → CommitSetCx
context_of st u = context_by st u.user (shift_at u.shift)

abbrev pub contexts_of : System → (ℕ → Decision) → ℕ → List CommitSetCx
contexts_of p st d = map (context_of st) (uses_of p (dst_of p d))

abbrev pub shifts_of : Operand → List Shift
shifts_of ts = map (λ (t : Term). shift_at t.inner) ts

-- "some use's context plus some term's shift has more runs than the slots"
abbrev pub term_over : ℕ → CommitSetCx → Shift → Bool
term_over n c s = ltb n (plus c.shifts s).len

abbrev pub some_over : ℕ → List CommitSetCx → List Shift → Bool
some_over n cs ss = some_of (λ (c : CommitSetCx). some_of (term_over n c) ss) cs

-- "its greatest depth is above 6 and it has not exactly one term"
abbrev pub too_deep : List CommitSetCx → List Shift → Bool
too_deep cs ss = ltb MAX_DEPTH (join_all cs).depth && not (eqb (length ss) 1)

-- "some such sum has more than one run and (terms - 1) x (uses - 1), each factor at least 0, is above 4"
abbrev pub multiplies_out : List CommitSetCx → List Shift → Bool
multiplies_out cs ss = some_over 1 cs ss && ltb MAX_TERM_GROWTH (pred (length ss) * pred (length cs))

-- "It commits if any of these holds"
unfoldable pub commits : ℕ → List CommitSetCx → List Shift → Bool
commits slots cs ss = some_over slots cs ss || (too_deep cs ss || multiplies_out cs ss)

unfoldable pub decide : ℕ → List CommitSetCx → List Shift → Decision
decide slots cs ss = cond (commits slots cs ss) Commit (Inline (join_all cs))

abbrev pub decide_at : ℕ → System → (ℕ → Decision) → ℕ → Decision
decide_at slots p st d = decide slots (contexts_of p st d) (shifts_of (rhs_of p d))

abbrev pub Solves : ℕ → System → (ℕ → Decision) → Type 0
Solves slots p st = (d : ℕ) → d < length p.linears → st d ≡ decide_at slots p st d
