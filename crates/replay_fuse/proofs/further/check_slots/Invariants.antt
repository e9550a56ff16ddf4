use Rattle.replay_fuse.specs.Further.{SlotsChecked}
use Rattle.replay_fuse.proofs.further.check_slots.Given as goal

abbrev pub invariant-loop-slots : goal.invariant-loop-slots
invariant-loop-slots l = SlotsChecked l.case.file.now l.case.room l.initial.t l.slots-index l.t
