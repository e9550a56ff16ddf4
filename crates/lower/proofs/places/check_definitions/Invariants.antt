use Rattle.std.proofs.Common.{◌≡◌, take, drop}
use Rattle.lower.specs.Faults.{definitions_fault, pairs_fault}
use Rattle.lower.proofs.places.check_definitions.Given as goal

abbrev pub invariant-loop-i : goal.invariant-loop-i
invariant-loop-i l =
    definitions_fault l.wires l.stores.old.now l.stores.new.now l.count l.dsts l.fn.rhss
    ≡ pairs_fault l.wires l.stores.old.now l.stores.new.now (drop l.i (take l.count l.dsts)) (drop l.i l.rhss)
