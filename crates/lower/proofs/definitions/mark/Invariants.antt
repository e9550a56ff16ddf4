use Rattle.std.proofs.Common.{◌≡◌, drop}
use Rattle.lower.specs.Tables.{marks}
use Rattle.lower.proofs.definitions.mark.Given as goal

abbrev pub invariant-loop-d : goal.invariant-loop-d
invariant-loop-d l = marks l.initial.defined l.dsts ≡ marks l.defined (drop l.d-index l.dsts)
