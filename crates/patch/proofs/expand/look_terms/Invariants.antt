use Rattle.patch.specs.Spelling.{Entries}
use lib.ListN.{length}
use Prim.Native.Nat.{◌≤◌}
use Rattle.patch.proofs.expand.look_terms.Given as goal

abbrev pub invariant-loop-i : goal.invariant-loop-i
invariant-loop-i l = (l.i ≤ length l.ts) × Entries l.table l.decisions l.initial.alive l.alive l.ts l.at (length l.ts) l.i
