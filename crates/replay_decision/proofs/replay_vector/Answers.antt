-- Read or not. Assumes nothing.
use Rattle.std.proofs.Common.{Ok, Err}
use Rattle.replay_decision.specs.Replay.{unread, read}
use Rattle.replay_decision.proofs.replay_vector.Goals as goal

pub returns-in-Ok : goal.returns-in-Ok
returns-in-Ok c = record {
  terms = _;
  ands = _;
  imuls = _;
  bmuls = _;
  zeros = _;
  dsts = _;
  rhss = _;
  answer = Ok c.in-Ok.read;
  reads = c.in-Ok.ensures;
  replays = read c.replay_system.ensures;
}

pub returns-in-Err : goal.returns-in-Err
returns-in-Err c = record {
  terms = _;
  ands = _;
  imuls = _;
  bmuls = _;
  zeros = _;
  dsts = _;
  rhss = _;
  answer = Err c.in-Err.field-0;
  reads = c.in-Err.ensures;
  replays = rw c.with_vector.ensures unread;
}
