-- The reader's answer, and the writer's where there is one. Assumes nothing.
use Rattle.replay_house.proofs.Passes.{pass_refused, pass_done}
use Rattle.replay_house.proofs.pass.pass.Goals as goal

pub returns-in-Err : goal.returns-in-Err
returns-in-Err c = rw c.refused.ensures (pass_refused c.read-r.ensures c.args.out.now c.in-Err.is)

pub returns-in-Ok : goal.returns-in-Ok
returns-in-Ok c = rw c.written.ensures (pass_done c.read-r.ensures c.in-Ok.is c.write.ensures)
