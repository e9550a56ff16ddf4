-- What is left to store, stored from where the walk stands, makes the store that is asked for. Assumes nothing.
use Rattle.house_fill.proofs.Fills.{sets_operands, sets_no_operands, sum_step, sum-none}
use Rattle.house_file.specs.Decoding.{operands_terms}
use native.Mathlib.Omega.{arith}
use Prim.Native.Nat.{ℕ, ◌-◌}
use mathlib.Core.Path.{◌≡◌, refl, sym, ap, ◌∙◌}
use Rattle.house_fill.proofs.put_operands.Goals as goal

pub loop-preserved : goal.loop-preserved
loop-preserved c = (
  c.loop.invariant.0 ∙ sets_operands c.args.s.now c.loop.store c.loop.q c.args.k c.loop.counter c.loop.a (omega arith) ∙ rw (c.put_terms.ensures, c.num-n.ensures.0),
  (
    rw c.num-n.ensures.0 (omega (arith, sum_step c.args.s.now c.loop.a c.args.k c.loop.counter (omega arith), c)),
    omega (arith, c, c.num-n.ensures.1, c.put_terms.auto),
  ),
)

pub returns : goal.returns
returns c =
    let done : c.args.k - c.loop.counter ≡ 0 = omega arith in (
      omega (arith, ap (λ (k : ℕ). operands_terms c.args.s.now k c.loop.a) done, sum-none c.args.s.now c.loop.a, c),
      (omega arith, sym (c.loop.invariant.0 ∙ rw (done, sets_no_operands c.args.s.now c.loop.store c.loop.q c.loop.a))),
    )
