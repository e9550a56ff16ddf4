-- One definition after the other. Assumes nothing.
use Rattle.replay_undo.proofs.Turns.{turns-none, holding_next}
use Rattle.std.proofs.Common.{ℕ, ◌∙◌, arith}
use Rattle.replay_undo.proofs.values.holding.Goals as goal

pub loop-i-init : goal.loop-i-init
loop-i-init c = (omega arith, turns-none ℕ _ _)

pub loop-i-preserved : goal.loop-i-preserved
loop-i-preserved c = (omega (arith, c.same-c.ensures.1), holding_next c.args.dsts.now c.args.assigned.now.values.now c.args.at c.args.assigned.now.words.now c.loop-i.i _ _ _ _ _ c.get-in-loop-i.ensures (c.from-w.ensures ∙ c.get.ensures) c.get-in-loop-i-2.ensures c.loop-i.invariant.1 c.same-c.ensures.0)
