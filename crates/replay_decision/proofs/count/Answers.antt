-- One place after the other. Assumes nothing.
use Rattle.std.proofs.Common.{ℕ, arith}
use Rattle.replay_decision.proofs.Turns.{turns-none, same_low, count_next}
use Rattle.replay_decision.proofs.count.Goals as goal

pub loop-i-init : goal.loop-i-init
loop-i-init c = (omega arith, turns-none ℕ _ _)

pub loop-i-preserved : goal.loop-i-preserved
loop-i-preserved c = (omega (arith, same_low), count_next c.args.l.now c.args.x c.loop-i.i _ _ c.get.ensures c.loop-i.invariant.1)
