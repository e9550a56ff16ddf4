use Rattle.std.proofs.Common.{◌≡◌, ◌+◌, ◌*◌, ◌≤◌, drop}
use Rattle.lower.specs.Lists.{sum_of}
use Rattle.lower.specs.Faults.{length_of}
use Rattle.lower.proofs.full.terms_of.Given as goal

abbrev pub invariant-loop-h : goal.invariant-loop-h
invariant-loop-h l = (l.total + sum_of length_of (drop l.h-index l.hs) ≡ sum_of length_of l.hs) × (l.total ≤ 4294967295 * l.h-index)
