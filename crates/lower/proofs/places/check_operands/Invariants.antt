use Rattle.std.proofs.Common.{◌≡◌, drop}
use Rattle.lower.specs.Faults.{first_fault, operand_fault}
use Rattle.lower.proofs.places.check_operands.Given as goal

abbrev pub invariant-loop-h : goal.invariant-loop-h
invariant-loop-h l =
    first_fault (operand_fault l.wires l.stores.old.now l.stores.new.now) l.hs ≡ first_fault (operand_fault l.wires l.stores.old.now l.stores.new.now) (drop l.h-index l.hs)
