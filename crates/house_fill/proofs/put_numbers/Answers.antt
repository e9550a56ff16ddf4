-- What is left to store, stored from where the walk stands, makes the store that is asked for; no start reaches 2^31. Assumes nothing.
use Rattle.house_fill.proofs.Fills.{sets_views, sets_no_views}
use Prim.Native.Nat.{◌-◌}
use native.Mathlib.Omega.{arith}
use mathlib.Core.Path.{◌≡◌, refl, sym, ◌∙◌}
use Rattle.house_fill.proofs.put_numbers.Goals as goal

pub loop-preserved : goal.loop-preserved
loop-preserved c = (
  c.loop.invariant.0 ∙ sets_views c.args.s.now c.loop.store c.loop.q c.args.k c.loop.counter c.loop.a c.loop.u (omega arith)
      ∙ rw (c.put.ensures, c.operand_number.ensures, c.num-n.ensures.0),
  omega (arith, c, c.num-n.ensures.1, c.put.auto),
)

pub returns : goal.returns
returns c =
    let done : c.args.k - c.loop.counter ≡ 0 = omega arith in
    sym (c.loop.invariant.0 ∙ rw (done, sets_no_views c.args.s.now c.loop.store c.loop.q c.loop.a c.loop.u))
