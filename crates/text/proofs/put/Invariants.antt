use Rattle.text.specs.Text.{PutsAt}
use lib.ListN.{take}
use Prim.Native.Nat.{◌+◌}
use Rattle.text.proofs.put.Given as goal

abbrev pub invariant-loop-i : goal.invariant-loop-i
invariant-loop-i l = PutsAt (take l.i l.text) l.initial.out l.at (l.at + l.i) l.out
