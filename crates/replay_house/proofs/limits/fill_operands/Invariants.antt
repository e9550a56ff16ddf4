use Rattle.std.proofs.Common.{◌≡◌, ◌-◌, length}
use lib.Seq.{sets}
use Rattle.replay_house.specs.Replay.{operand_made, made_from}
use Rattle.replay_house.proofs.limits.fill_operands.Given as goal

abbrev pub invariant-loop-i : goal.invariant-loop-i
invariant-loop-i l = sets l.initial.store 0 (made_from (operand_made l.len) 0 (length l.initial.store)) ≡ sets l.store l.i (made_from (operand_made l.len) l.i (length l.initial.store - l.i))
