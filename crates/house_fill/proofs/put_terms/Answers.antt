-- What is left to store, stored from where the walk stands, makes the store that is asked for. Assumes nothing.
use Rattle.house_fill.proofs.Fills.{sets_terms, sets_no_terms}
use Prim.Native.Nat.{◌-◌}
use native.Mathlib.Omega.{arith}
use mathlib.Core.Path.{◌≡◌, refl, sym, ◌∙◌}
use Rattle.house_fill.proofs.put_terms.Goals as goal

pub loop-preserved : goal.loop-preserved
loop-preserved c = (
  c.loop.invariant.0 ∙ sets_terms c.args.s.now c.loop.store c.loop.q c.args.n c.loop.counter c.loop.a (omega arith)
      ∙ rw (c.put.ensures, c.term_at.ensures),
  omega (arith, c, c.put.auto),
)

pub returns : goal.returns
returns c =
    let done : c.args.n - c.loop.counter ≡ 0 = omega arith in
    sym (c.loop.invariant.0 ∙ rw (done, sets_no_terms c.args.s.now c.loop.store c.loop.q c.loop.a))
