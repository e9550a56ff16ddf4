-- Without definitions the places are those of the rows. Assumes nothing.
use Rattle.std.proofs.Common.{ℕ, [], ◌∙◌}
use mathlib.Core.Path.{ap₂}
use Rattle.lower.specs.Faults.{places_fault}
use Rattle.records.proofs.Crowds.{rows_placed}
use Rattle.records.proofs.LentRecords.check_rows.Goals as goal

pub returns : goal.returns
returns c = c.check_places.ensures ∙ ap₂ {C = ℕ} places_fault c.with.ensures.same_sizes c.with.ensures.of_numbers ∙ rows_placed c.args.self.now.sizes _ _ _ _ _ _ [] [] _ _
