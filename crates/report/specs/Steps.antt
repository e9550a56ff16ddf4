-- What stands between the steps.
--
--   Tallied o           what is told of an outcome is fit to be counted: no more definitions are gone than there were, and no system has more
--                       wires than there are flags
--   lent_in s f         the lists of the lent system s, and the flags f
--
-- Assumes nothing.
use Rattle.std.specs.Prelude.{ℕ, ◌≤◌, List, Result, Ok, Err}
use Rattle.lower.specs.Accepted.{MAX_WIRES}
use Rattle.lower.specs.declared.LentSystem.{LentSystem}
use Rattle.fusion.specs.Left.{Lent, lent}
use Rattle.report.specs.declared.outcome.FusedSystem.{FusedSystem}
use Rattle.report.specs.declared.outcome.Fault.{Fault}

abbrev pub Tallied : Result FusedSystem Fault → Type 0
Tallied (Ok s) = (s.counts.gone ≤ s.sizes.linears) × (s.sizes.wires ≤ MAX_WIRES)
Tallied (Err _) = Unit {0}

abbrev pub lent_in : LentSystem → List ℕ → Lent
lent_in s flags = lent s.stores.old.now s.stores.new.now s.ands.now s.imuls.now s.bmuls.now s.zeros.now s.dsts.now s.rhss.now flags
