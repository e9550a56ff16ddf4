-- A system of one definition and no row has the fault of that definition. Assumes nothing.
use Rattle.std.proofs.Common.{ℕ, ◌∙◌}
use mathlib.Core.Path.{ap₂}
use Rattle.lower.specs.Faults.{places_fault}
use Rattle.records.proofs.Crowds.{one_placed}
use Rattle.records.proofs.LentRecords.check_definition.Goals as goal

pub returns : goal.returns
returns c = c.check_places.ensures ∙ ap₂ {C = ℕ} places_fault c.with.ensures.same_sizes c.with.ensures.of_numbers ∙ one_placed c.args.self.now.sizes.wires _ _ _ _ _ _ c.args.definition.dst c.args.definition.rhs
