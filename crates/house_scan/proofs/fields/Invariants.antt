use Prim.Native.Nat.{◌-◌}
use lib.ListN.{length}
use Rattle.house_scan.proofs.Laws.{Stands}
use Rattle.house_scan.proofs.fields.Given as goal

abbrev pub invariant-loop-next : goal.invariant-loop-next
invariant-loop-next l = Stands l.s l.wires l.place

abbrev pub decreases-loop-next : goal.decreases-loop-next
decreases-loop-next l = length l.s - l.place.at
