-- Slots always, room where no refusal is told. Assumes nothing.
use Rattle.replay_fuse.specs.Further.{refusal, accepted}
use Rattle.replay_fuse.proofs.further.check_further.Goals as goal

pub returns-then-case-ne0 : goal.returns-then-case-ne0
returns-then-case-ne0 c = refusal c.if-case-ne0.true c.check_slots-u.ensures

pub returns : goal.returns
returns c = accepted c.if-case-ne0.false c.check_slots-u.ensures (rw c.wires_in.ensures at c.check_flags-v.ensures) c.check_new.ensures
