use Rattle.std.proofs.Common.{◌≡◌, ◌-◌, length}
use lib.Seq.{sets}
use Rattle.replay_house.specs.Replay.{wire_made, made_from}
use Rattle.replay_house.proofs.limits.fill_wires.Given as goal

abbrev pub invariant-loop-i : goal.invariant-loop-i
invariant-loop-i l = sets l.initial.store 0 (made_from (wire_made l.wires) 0 (length l.initial.store)) ≡ sets l.store l.i (made_from (wire_made l.wires) l.i (length l.initial.store - l.i))
