-- One call after the other. Assumes nothing.
use Rattle.std.proofs.Common.{◌≡◌, arith}
use Rattle.replay_decision.specs.Replay.{none}
use Rattle.replay_decision.proofs.Calls.{slots_are, slots_next}
use Rattle.replay_decision.proofs.check_slots.Goals as goal

pub loop-slots-init : goal.loop-slots-init
loop-slots-init c = none

pub loop-slots-preserved : goal.loop-slots-preserved
loop-slots-preserved c =
    slots_next _ _ _ c.loop-slots.slots-index _ _ _ _ c.loop-slots.invariant (slots_are c.loop-slots.slots-index c.loop-slots-test.true) c.answers_in.ensures c.with_check-t.ensures

pub returns : goal.returns
returns c = let e : c.loop-slots.slots-index ≡ 7 = omega arith in rw e at c.loop-slots.invariant
