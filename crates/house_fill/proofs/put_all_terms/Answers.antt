-- What is left to store, stored from where the walk stands, makes the store that is asked for. Assumes nothing.
use Rattle.house_fill.proofs.Fills.{sets_entries, sets_no_entries}
use Prim.Native.Nat.{◌-◌}
use native.Mathlib.Omega.{arith}
use mathlib.Core.Path.{◌≡◌, refl, sym, ◌∙◌}
use Rattle.house_fill.proofs.put_all_terms.Goals as goal

pub loop-preserved : goal.loop-preserved
loop-preserved c = (
  c.loop.invariant.0 ∙ sets_entries c.args.s.now c.loop.store c.loop.q c.args.n c.loop.counter c.loop.a (omega arith)
      ∙ rw (c.put_operands-q.ensures.1.1, c.put_operands-q.ensures.0, c.start_of-b.ensures.0, c.arity_of-k.ensures.0, c.byte-tag.ensures.0, c.num.ensures.0),
  omega (arith, c, c.num.ensures.1, c.arity_of-k.ensures.1, c.put_operands-q.ensures.1.0, c.put_operands-q.auto),
)

pub returns : goal.returns
returns c =
    let done : c.args.n - c.loop.counter ≡ 0 = omega arith in
    sym (c.loop.invariant.0 ∙ rw (done, sets_no_entries c.args.s.now c.loop.store c.loop.q c.loop.a))
