-- One word after the other. Assumes nothing.
use Rattle.std.proofs.Common.{◌≡◌, List, ℕ, length, arith}
use Rattle.replay_records.proofs.Turns.{turns-none, make_next}
use Rattle.replay_records.proofs.words.make.Goals as goal

pub loop-i-init : goal.loop-i-init
loop-i-init c = turns-none (List ℕ) _ _

pub loop-i-preserved : goal.loop-i-preserved
loop-i-preserved c = make_next c.loop-i.i _ _ _ c.word.ensures c.loop-i.invariant

pub returns : goal.returns
returns c = let e : c.loop-i.i ≡ length c.args.words.now = omega arith in rw e at c.loop-i.invariant
