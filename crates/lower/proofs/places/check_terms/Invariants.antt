use Rattle.std.proofs.Common.{◌≡◌, ℕ, map, drop}
use Rattle.operand.specs.Numbers.{term_of}
use Rattle.lower.specs.Faults.{first_fault, term_fault}
use Rattle.lower.proofs.places.check_terms.Given as goal

abbrev pub invariant-loop-t : goal.invariant-loop-t
invariant-loop-t l = first_fault (term_fault l.wires) (map term_of l.ts) ≡ first_fault (λ (t : ℕ). term_fault l.wires (term_of t)) (drop l.t-index l.ts)
