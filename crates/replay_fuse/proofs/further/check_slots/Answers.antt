-- One call after the other. Assumes nothing.
use Rattle.std.proofs.Common.{◌≡◌, arith}
use Rattle.replay_fuse.proofs.Slots.{slots_are}
use Rattle.replay_fuse.specs.Further.{none, more}
use Rattle.replay_fuse.proofs.further.check_slots.Goals as goal

pub loop-slots-init : goal.loop-slots-init
loop-slots-init c = none

pub loop-slots-preserved : goal.loop-slots-preserved
loop-slots-preserved c =
    rw c.with_check-t.ensures
    (more c.loop-slots.invariant (rw (slots_are c.loop-slots.slots-index c.loop-slots-test.true) at c.refused-seen.ensures))

pub returns : goal.returns
returns c = let e : c.loop-slots.slots-index ≡ 4 = omega arith in rw e at c.loop-slots.invariant
