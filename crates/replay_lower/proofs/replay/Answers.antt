-- One pair after the other. Assumes nothing.
use Rattle.std.proofs.Common.{◌≡◌, ℕ, ◌/◌, length, refl, ap, arith, rules}
use Rattle.std.proofs.lemmas.List.{length-replicate}
use Rattle.replay_lower.specs.Replay.{State}
use Rattle.replay_lower.proofs.Steps.{next}
use Rattle.replay_lower.proofs.replay.Goals as goal

pub loop-i-init : goal.loop-i-init
loop-i-init c = (length-replicate {A = ℕ} 8192 0, length-replicate {A = ℕ} 2048 0, refl)

pub loop-i-preserved : goal.loop-i-preserved
loop-i-preserved c = (search rules, search rules, next c.args.input.now c.loop-i.i _ _ _ _ c.loop-i.invariant.2 c.word.ensures c.word-in-loop-i.ensures c.step-t.ensures)

pub returns : goal.returns
returns c = let e : c.loop-i.i ≡ length c.args.input.now / 16 = omega arith in ap (λ (x : State). x.tally) (rw e at c.loop-i.invariant.2)
