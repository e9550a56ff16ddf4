-- A decision as one number, so that the decisions of all definitions are a list of numbers.
--
--   decision_number x   0 for Commit; else a low bit 1 under the context's number
--   context_number c    two bits of count, sixteen for each run, the outermost first, and the depth above; run_number r, a set under a total
--   decision_at n       the decision that the number n stands for: every number stands for one; so context_at, run_at
--   state_at l d        the decision of the definition d in the store l
--   Packs x            each part of x is within its bits; so ContextPacks, RunsPack, RunPacks
--
-- Assumes nothing.
use Rattle.std.specs.Prelude.{ℕ, ◌+◌, ◌*◌, ◌/◌, ◌%◌, ◌<◌, cond, List, eqb, get_or}
use Rattle.commit_set.specs.declared.Run.{Run}
use Rattle.commit_set.specs.declared.ShiftSummary.{ShiftSummary}
use Rattle.commit_set.specs.declared.CommitSetCx.{CommitSetCx}
use Rattle.commit_set.specs.declared.Decision.{Decision}
use Rattle.commit_set.specs.declared.Decision.TheVariants.{Commit, Inline}
use Rattle.commit_set.specs.Runs.{runs, context}

abbrev pub run_number : Run → ℕ
run_number r = r.variants + 256 * r.total

abbrev pub run_at : ℕ → Run
run_at n = record { variants = n % 256; total = n / 256 % 256 }

abbrev pub context_number : CommitSetCx → ℕ
context_number c = c.shifts.len + 4 * run_number c.shifts.first + 262144 * run_number c.shifts.second + 17179869184 * c.depth

abbrev pub context_at : ℕ → CommitSetCx
context_at n = context (runs (n % 4) (run_at (n / 4)) (run_at (n / 262144))) (n / 17179869184)

unfoldable pub decision_number : Decision → ℕ
decision_number Commit = 0
decision_number (Inline c) = 1 + 2 * context_number c

unfoldable pub decision_at : ℕ → Decision
decision_at n = cond (eqb n 0) Commit (Inline (context_at (n / 2)))

abbrev pub state_at : List ℕ → ℕ → Decision
state_at l d = decision_at (get_or l d 0)

pub record RunPacks (r : Run) : Type 0 where
  pub set_byte : r.variants < 256
  pub total_byte : r.total < 256

pub record RunsPack (r : ShiftSummary) : Type 0 where
  pub count_few : r.len < 4
  pub first_packs : RunPacks r.first
  pub second_packs : RunPacks r.second

pub record ContextPacks (c : CommitSetCx) : Type 0 where
  pub runs_pack : RunsPack c.shifts
  pub depth_low : c.depth < 65536

abbrev pub Packs : Decision → Type 0
Packs Commit = Unit
Packs (Inline c) = ContextPacks c
