-- One number after the other. Assumes nothing.
use Rattle.replay_undo.proofs.Turns.{turns-none, digest_next}
use Rattle.std.proofs.Common.{ℕ}
use Rattle.replay_undo.proofs.places.digest_of.Goals as goal

pub loop-i-init : goal.loop-i-init
loop-i-init c = turns-none ℕ _ _

pub loop-i-preserved : goal.loop-i-preserved
loop-i-preserved c = digest_next c.args.l.now c.args.start c.loop-i.i _ _ _ c.get.ensures c.loop-i.invariant c.mix-digest.ensures.0
