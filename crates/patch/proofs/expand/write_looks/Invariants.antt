use Rattle.patch.proofs.Looking.{Filled}
use Rattle.lower.specs.Faults.{length_of}
use Rattle.lower.specs.Lists.{sum_of}
use lib.ListN.{length, take, drop}
use Prim.Native.Nat.{◌+◌, ◌*◌, ◌≤◌}
use Rattle.patch.proofs.expand.write_looks.Given as goal

abbrev pub invariant-loop-d : goal.invariant-loop-d
invariant-loop-d l = (l.d ≤ l.n) × (l.at + 2 * sum_of length_of (drop l.d (take l.n l.rhss)) ≤ length l.initial.alive) × Filled l.stores.old.now l.stores.new.now l.rhss l.table l.decisions l.initial.alive l.alive l.at l.d
