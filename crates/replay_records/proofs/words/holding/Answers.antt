-- One definition after the other. Assumes nothing.
use Rattle.std.proofs.Common.{◌≡◌, ℕ, refl, arith}
use Rattle.replay_records.proofs.Turns.{turns-none, holding_next}
use Rattle.replay_records.proofs.words.holding.Goals as goal

pub loop-i-init : goal.loop-i-init
loop-i-init c = (omega arith, turns-none ℕ _ _)

pub overflow_add-c : goal.overflow_add-c
overflow_add-c c = omega (arith, c.holds-c.ensures.1)

pub loop-i-preserved : goal.loop-i-preserved
loop-i-preserved c = (omega (arith, c.holds-c.ensures.1), holding_next c.args.defs.now c.args.values.now c.args.at c.args.flags.now c.args.words.now c.loop-i.i _ _ _ _ refl c.get.ensures c.loop-i.invariant.1 c.holds-c.ensures.0)

pub returns : goal.returns
returns c = let e : c.loop-i.i ≡ c.args.n = omega arith in rw e at c.loop-i.invariant.1
