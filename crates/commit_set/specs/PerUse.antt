-- The decision with a context on each use, word by word as 01 has it ("The decision", second paragraph).
--
--   no_term, term_at     term_at p e j is the term j of the definition e
--   at_terms g w j ts   the contexts of those of the terms ts that name w, g being the context of each by its number, the first number j
--   at_definitions      the same over definitions, g e j being the context of the term j of the definition e
--   at_constraints p w  the contexts of the uses of w in other constraints
--   on_uses p g d       the contexts of all uses of the definition d
--   Assigned           which definitions commit, and the context of each term, are what the rules say of each other
--
-- Assumes nothing.
use Rattle.std.specs.Prelude.{◌≡◌, ℕ, suc, ◌<◌, Bool, true, false, cond, List, [], ◌∷◌, ◌++◌, map, eqb, length, get_or}
use Rattle.shift.specs.Shifts.{shift_at}
use Rattle.operand.specs.Numbers.{Term}
use Rattle.lower.specs.Lists.{joined}
use Rattle.lower.specs.Model.{Definition, System, row_operands}
use Rattle.legraph.specs.Uses.{constraint, Use, uses_in, rhs_of, dst_of}
use Rattle.commit_set.specs.declared.CommitSetCx.{CommitSetCx}
use Rattle.commit_set.specs.Runs.{join_all, fresh, under}
use Rattle.commit_set.specs.Decision.{shifts_of, commits}

abbrev pub no_term : Term
no_term = record { wire = 0; inner = 0; outer = 0 }

abbrev pub term_at : System → ℕ → ℕ → Term
term_at p e j = get_or (rhs_of p e) j no_term

unfoldable pub at_terms : (ℕ → CommitSetCx) → ℕ → ℕ → List Term → List CommitSetCx
at_terms g w j [] = []
at_terms g w j (t ∷ ts) = cond (eqb t.wire w) (g j ∷ at_terms g w (suc j) ts) (at_terms g w (suc j) ts)

-- in the definitions, of which the first has the number k
unfoldable pub at_definitions : (ℕ → ℕ → CommitSetCx) → ℕ → ℕ → List Definition → List CommitSetCx
at_definitions g w k [] = []
at_definitions g w k (d ∷ ds) = at_terms (g k) w 0 d.rhs ++ at_definitions g w (suc k) ds

-- "A use in an And, Imul, Bmul or Zero has the context (its shift, depth 0)"
abbrev pub at_constraints : System → ℕ → List CommitSetCx
at_constraints p w = map (λ (u : Use). fresh (shift_at u.shift)) (uses_in constraint w (joined (row_operands p)))

unfoldable pub on_uses : System → (ℕ → ℕ → CommitSetCx) → ℕ → List CommitSetCx
on_uses p g d = at_constraints p (dst_of p d) ++ at_definitions g (dst_of p d) 0 p.linears

pub record Assigned (slots : ℕ) (p : System) (commit : ℕ → Bool) (contexts : ℕ → ℕ → CommitSetCx) : Type 0 where
  -- "It commits if any of these holds"
  pub decides : (d : ℕ) → d < length p.linears → commit d ≡ commits slots (on_uses p contexts d) (shifts_of (rhs_of p d))
  -- "Terms of a committed definition start afresh with (own shift, depth 0)"
  pub afresh : (d j : ℕ) → d < length p.linears → j < length (rhs_of p d) → commit d ≡ true → contexts d j ≡ fresh (shift_at (term_at p d j).inner)
  -- "of another, with all its uses joined, plus own shift, depth + 1"
  pub goes_on : (d j : ℕ) → d < length p.linears → j < length (rhs_of p d) → commit d ≡ false → contexts d j ≡ under (join_all (on_uses p contexts d)) (shift_at (term_at p d j).inner)
