use Rattle.lower.specs.Stores.{stores_of}
use Rattle.replay_decision.specs.Replay.{SlotsChecked}
use Rattle.replay_decision.proofs.check_slots.Given as goal

abbrev pub invariant-loop-slots : goal.invariant-loop-slots
invariant-loop-slots l = SlotsChecked l.system.sizes (stores_of l.system) l.initial.t l.slots-index l.t
