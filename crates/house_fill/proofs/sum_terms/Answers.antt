-- The sum so far and what is left make the whole. Assumes nothing.
use Rattle.house_fill.proofs.Fills.{sum_step, sum-none}
use Rattle.house_file.specs.Decoding.{operands_terms}
use native.Mathlib.Omega.{arith}
use Prim.Native.Nat.{ℕ, ◌-◌}
use mathlib.Core.Path.{◌≡◌, ap}
use Rattle.house_fill.proofs.sum_terms.Goals as goal

pub loop-preserved : goal.loop-preserved
loop-preserved c =
    (rw c.num-n.ensures.0 (omega (arith, sum_step c.args.s.now c.loop.a c.args.k c.loop.counter (omega arith))), omega arith)

pub returns : goal.returns
returns c =
    let done : c.args.k - c.loop.counter ≡ 0 = omega arith in
    (omega (arith, ap (λ (k : ℕ). operands_terms c.args.s.now k c.loop.a) done, sum-none c.args.s.now c.loop.a), omega arith)
