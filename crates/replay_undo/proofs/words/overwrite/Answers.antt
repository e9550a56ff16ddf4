-- One definition after the other. Assumes nothing.
use Rattle.replay_undo.proofs.Turns.{turns-none, overwrite_next}
use Rattle.std.proofs.Common.{ℕ, List, ◌∙◌}
use Rattle.replay_undo.proofs.words.overwrite.Goals as goal

pub loop-i-init : goal.loop-i-init
loop-i-init c = turns-none (List ℕ) _ _

pub loop-i-preserved : goal.loop-i-preserved
loop-i-preserved c = overwrite_next c.args.dsts.now c.args.flags.now c.loop-i.i _ _ _ _ _ (c.from-w.ensures ∙ c.get.ensures) c.get-in-loop-i.ensures c.loop-i.invariant c.disturb.ensures
