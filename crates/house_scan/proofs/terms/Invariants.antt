use mathlib.Core.Path.{◌≡◌}
use Prim.Native.Nat.{◌+◌, ◌*◌, ◌-◌, ◌≤◌}
use Rattle.lower.specs.Faults.{first_fault, term_fault}
use Rattle.house_file.specs.Decoding.{terms_at}
use Rattle.house_scan.proofs.terms.Given as goal

abbrev pub invariant-loop-i : goal.invariant-loop-i
invariant-loop-i l = first_fault (term_fault l.wires) (terms_at l.s l.n l.at) ≡ first_fault (term_fault l.wires) (terms_at l.s (l.n - l.i) (l.at + 6 * l.i))
