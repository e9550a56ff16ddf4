-- What is left to store, stored from where the walk stands, makes the store that is asked for; no start reaches 2^31. Assumes nothing.
use Rattle.house_fill.proofs.Fills.{sets_list, sets_no_list}
use Prim.Native.Nat.{◌-◌}
use native.Mathlib.Omega.{arith}
use mathlib.Core.Path.{◌≡◌, refl, sym, ◌∙◌}
use Rattle.house_fill.proofs.put_list.Goals as goal

pub loop-preserved : goal.loop-preserved
loop-preserved c = (
  c.loop.invariant.0 ∙ sets_list c.args.s.now c.loop.store c.loop.q c.args.kind c.loop.t c.args.n c.loop.counter c.loop.a (omega arith)
      ∙ rw (c.put_entry-q.ensures.1.1, c.put_entry-q.ensures.0, c.sum_terms-t.ensures.0, c.start_of-b.ensures.0, c.arity_of-k.ensures.0, c.byte-tag.ensures.0, c.num.ensures.0),
  omega (arith, c, c.num.ensures.1, c.sum_terms-t.ensures.1, c.arity_of-k.ensures.1, c.put_entry-q.ensures.1.0, c.put_entry-q.auto),
)

pub returns : goal.returns
returns c =
    let done : c.args.n - c.loop.counter ≡ 0 = omega arith in
    sym (c.loop.invariant.0 ∙ rw (done, sets_no_list c.args.s.now c.loop.store c.loop.q c.args.kind c.loop.t c.loop.a))
