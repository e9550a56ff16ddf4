-- One vector after the other. Assumes nothing.
use Rattle.std.proofs.Common.{arith}
use Rattle.replay_decision.specs.Replay.{begun}
use Rattle.replay_decision.proofs.Calls.{vector_next}
use Rattle.replay_decision.proofs.replay.Goals as goal

pub loop-at-init : goal.loop-at-init
loop-at-init c = begun

pub loop-at-smaller : goal.loop-at-smaller
loop-at-smaller c = omega (arith, c.vector_at-v.ensures.at_lt_end)

pub loop-at-preserved : goal.loop-at-preserved
loop-at-preserved c = vector_next _ c.loop-at.at _ _ _ _ _ c.loop-at-test.true c.vector_at-v.ensures.value c.loop-at.invariant c.part-in-loop-at.ensures c.part.ensures c.replay_vector-t.ensures

pub returns : goal.returns
returns c = record { end = c.loop-at.at; past = omega arith; replayed = c.loop-at.invariant }
