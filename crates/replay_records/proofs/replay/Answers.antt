-- One vector after the other. Assumes nothing.
use Rattle.replay_records.proofs.Calls.{vector_first, vector_next}
use Rattle.std.proofs.Common.{arith}
use Rattle.replay_records.proofs.replay.Goals as goal

pub loop-at-init : goal.loop-at-init
loop-at-init c = vector_first _ _ c.nothing-t.ensures

pub told_at-requires : goal.told_at-requires
told_at-requires c = omega (arith, c.vector_at-v.ensures.at_lt_end)

pub loop-at-smaller : goal.loop-at-smaller
loop-at-smaller c = omega (arith, c.vector_at-v.ensures.at_lt_end)

pub loop-at-preserved : goal.loop-at-preserved
loop-at-preserved c = vector_next _ c.loop-at.at _ _ _ _ _ _ _ c.loop-at-test.true c.vector_at-v.ensures.value c.loop-at.invariant c.part.ensures c.told_at.ensures c.part-in-loop-at.ensures c.attempt.ensures c.count-t.ensures

pub returns : goal.returns
returns c = record { end = c.loop-at.at; past = omega arith; replayed = c.loop-at.invariant }
