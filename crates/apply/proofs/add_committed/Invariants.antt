use Rattle.apply.specs.Applied.{committed_wires}
use lib.Seq.{sets}
use lib.ListN.{length, take, drop}
use Prim.Native.Nat.{◌+◌, ◌-◌}
use mathlib.Core.Path.{◌≡◌}
use Rattle.apply.proofs.add_committed.Given as goal

abbrev pub invariant-loop-w : goal.invariant-loop-w
invariant-loop-w l = (l.n + length (committed_wires l.table l.decisions l.w (l.wires - l.w)) ≡ length (committed_wires l.table l.decisions 0 l.wires)) × (sets l.dsts (l.at + l.n) (committed_wires l.table l.decisions l.w (l.wires - l.w)) ≡ sets l.initial.dsts l.at (committed_wires l.table l.decisions 0 l.wires)) × (sets l.rhss (l.at + l.n) (take (length (committed_wires l.table l.decisions l.w (l.wires - l.w))) (drop l.n l.list)) ≡ sets l.initial.rhss l.at (take (length (committed_wires l.table l.decisions 0 l.wires)) l.list))
