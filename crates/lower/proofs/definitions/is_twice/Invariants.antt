use Rattle.std.proofs.Common.{◌≡◌, length, drop}
use Rattle.lower.specs.Faults.{repeated}
use Rattle.lower.proofs.Somes.{again}
use Rattle.lower.proofs.definitions.is_twice.Given as goal

abbrev pub invariant-loop-d : goal.invariant-loop-d
invariant-loop-d l = (length l.met ≡ 4096) × (repeated l.dsts ≡ again l.met (drop l.d-index l.dsts))
