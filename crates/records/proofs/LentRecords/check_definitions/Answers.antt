-- The first fault is that of all. Assumes nothing.
use Rattle.std.proofs.Common.{sym, ap, ◌∙◌, take, drop_of_length-le}
use Rattle.lower.proofs.Refusals.{exit_is, number_some}
use Rattle.records.proofs.Crowds.{faults, fault_here, front_faults}
use Rattle.records.proofs.LentRecords.check_definitions.Goals as goal

pub returns-in_err-check_definition : goal.returns-in_err-check_definition
returns-in_err-check_definition c =
    let s = c.args.self.now in
    exit_is _ _ _ c.from_residual.ensures.1
    (fault_here s.sizes.wires s.stores.old.now s.stores.new.now (take c.args.n s.defs.now) c.loop-definition.definition-index _ _ c.loop-definition-test.true c.in_err-check_definition.ensures c.loop-definition.invariant (number_some _)
    ∙ front_faults s.sizes.wires s.stores.old.now s.stores.new.now s.defs.now c.args.n)

pub returns : goal.returns
returns c =
    let s = c.args.self.now in
    let ys = take c.args.n s.defs.now in
    sym (sym (front_faults s.sizes.wires s.stores.old.now s.stores.new.now s.defs.now c.args.n) ∙ c.loop-definition.invariant
    ∙ ap (faults s.sizes.wires s.stores.old.now s.stores.new.now) (drop_of_length-le ys c.loop-definition-test.false))
