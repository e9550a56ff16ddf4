-- One word after the other. Assumes nothing.
use Rattle.replay_undo.proofs.Turns.{turns-none, make_next}
use Rattle.std.proofs.Common.{ℕ, List}
use Rattle.replay_undo.proofs.words.make.Goals as goal

pub loop-i-init : goal.loop-i-init
loop-i-init c = turns-none (List ℕ) _ _

pub loop-i-preserved : goal.loop-i-preserved
loop-i-preserved c = make_next c.args.kind c.args.seed c.loop-i.i _ _ _ c.word.ensures c.loop-i.invariant
