-- One row after the other. Assumes nothing.
use Rattle.replay_undo.proofs.Turns.{turns-none, rows_next}
use Rattle.std.proofs.Common.{ℕ, refl}
use Rattle.replay_undo.proofs.places.rows_mixed.Goals as goal

pub loop-i-init : goal.loop-i-init
loop-i-init c = turns-none ℕ _ _

pub loop-i-preserved : goal.loop-i-preserved
loop-i-preserved c = rows_next c.args.l.now c.args.at c.args.k c.args.start c.loop-i.i _ _ _ c.row_mixed-sum.ensures c.loop-i.invariant refl
