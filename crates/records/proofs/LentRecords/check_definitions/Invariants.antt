-- What is found of all is found of those to come. Assumes nothing.
use Rattle.std.proofs.Common.{◌≡◌, drop}
use Rattle.records.proofs.Crowds.{faults}
use Rattle.records.proofs.LentRecords.check_definitions.Given as goal

abbrev pub invariant-loop-definition : goal.invariant-loop-definition
invariant-loop-definition l =
    faults l.self.sizes.wires l.self.stores.old.now l.self.stores.new.now l.definition-items
    ≡ faults l.self.sizes.wires l.self.stores.old.now l.self.stores.new.now (drop l.definition-index l.definition-items)
