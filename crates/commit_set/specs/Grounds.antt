-- The answer for a definition from what the search over its uses and terms has found (01, "The decision").
--
--   deep n terms           the depth n is above 6 and there is not exactly one term
--   grows many terms uses  some sum has more than one run and (terms - 1) x (uses - 1) is above 4
--   concluded              Commit on any of the three grounds, else Inline with all uses' contexts joined
--
-- Assumes nothing.
use Rattle.std.specs.Prelude.{ℕ, ◌*◌, pred, Bool, not, cond, ◌&&◌, ◌||◌, ltb, eqb}
use Rattle.commit_set.specs.declared.CommitSetCx.{CommitSetCx}
use Rattle.commit_set.specs.declared.Decision.{Decision}
use Rattle.commit_set.specs.declared.Decision.TheVariants.{Commit, Inline}
use Rattle.commit_set.specs.Decision.{MAX_DEPTH, MAX_TERM_GROWTH}

abbrev pub deep : ℕ → ℕ → Bool
deep n terms = ltb MAX_DEPTH n && not (eqb terms 1)

abbrev pub grows : Bool → ℕ → ℕ → Bool
grows many terms uses = many && ltb MAX_TERM_GROWTH (pred terms * pred uses)

-- "It commits if any of these holds"; over, that some sum is over the slots
unfoldable pub concluded : Bool → Bool → CommitSetCx → ℕ → ℕ → Decision
concluded over many c terms uses = cond (over || (deep c.depth terms || grows many terms uses)) Commit (Inline c)
