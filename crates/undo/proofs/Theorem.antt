-- Demand 3, whole, for every accepted system and the decision for one or two slots. Assumes nothing.
use Prim.Native.Nat.{ℕ, ◌≤◌}
use mathlib.Core.List.{List}
use Rattle.lower.specs.Model.{System}
use Rattle.lower.specs.Accepted.{Accepted}
use Rattle.commit_set.specs.declared.Decision.{Decision}
use Rattle.commit_set.specs.Decision.{Solves}
use Rattle.patch.specs.Patch.{commit_set}
use Rattle.patch.specs.Counts.{Counted}
use Rattle.patch.proofs.NeverOver.{never_over}
use Rattle.patch.proofs.Counting.{counted}
use Rattle.undo.specs.Demand3.{Demand3}
use Rattle.undo.proofs.Undo.{undone}
use Rattle.undo.proofs.Listed.{demand_3}

module _ (slots : ℕ) (few : slots ≤ 2) (p : System) (acc : Accepted p) (st : ℕ → Decision) (solves : Solves slots p st) where
  -- THE THEOREM.
  pub theorem : (Imul Bmul : List ℕ → Type 0) → Demand3 p (commit_set p st) Imul Bmul
  theorem Imul Bmul =
      demand_3 p (commit_set p st) acc Imul Bmul
      (undone p (commit_set p st) acc Imul Bmul (never_over slots p st solves few acc.shifted acc.single))

  pub counts : Counted p (commit_set p st)
  counts = counted p (commit_set p st) acc.once acc.named.destinations_named
