-- Two calls, where there is a definition. Assumes nothing.
use Rattle.std.proofs.Common.{arith}
use Rattle.replay_decision.specs.Replay.{nothing}
use Rattle.replay_decision.proofs.Calls.{rooms}
use Rattle.replay_decision.proofs.check_room.Goals as goal

pub returns-then-n-eq0 : goal.returns-then-n-eq0
returns-then-n-eq0 c = nothing c.if-n-eq0.true

pub returns : goal.returns
returns c = rooms _ _ _ _ _ _ _ _ (omega arith) c.answers_in-short.ensures c.answers_in-enough.ensures c.with_check.ensures c.with_check-2.ensures
