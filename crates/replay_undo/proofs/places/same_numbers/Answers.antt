-- One place after the other. Assumes nothing.
use Rattle.replay_undo.proofs.Turns.{turns-none, places_next}
use Rattle.std.proofs.Common.{ℕ, arith}
use Rattle.replay_undo.proofs.places.same_numbers.Goals as goal

pub loop-i-init : goal.loop-i-init
loop-i-init c = (omega arith, turns-none ℕ _ _)

pub loop-i-preserved : goal.loop-i-preserved
loop-i-preserved c = (omega (arith, c.same-c.ensures.1), places_next c.args.a.now c.args.b.now c.args.from c.loop-i.i _ _ _ _ c.get.ensures c.get-in-loop-i.ensures c.loop-i.invariant.1 c.same-c.ensures.0)
