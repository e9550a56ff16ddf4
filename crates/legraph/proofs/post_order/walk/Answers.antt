-- The walk from the definitions that are left on is the whole. Assumes nothing.
use Rattle.std.proofs.Common.{arith, ◌≡◌, sym, ap, ◌∙◌, subst, ℕ, ◌+◌, ◌-◌, length}
use Rattle.legraph.specs.Walked.{walked, walk_from, walk_of, rhs_in, Sound}
use Rattle.legraph.proofs.Walks.{unmarked-length, walk_step, walk_end}
use Rattle.legraph.proofs.post_order.walk.Goals as goal

pub loop-k-init : goal.loop-k-init
loop-k-init c = (omega arith, let e : c.args.count - 0 ≡ c.args.count = omega arith in rw e)

pub start-cur-requires-clause-sound : goal.start-cur-requires-clause-sound
start-cur-requires-clause-sound c = subst (λ (n : ℕ). Sound c.args.stores.now.old.now c.args.stores.now.new.now c.args.rhss.now c.args.table.now n) (sym c.loop-k.auto.marks) c.requires.sound

pub loop-k-preserved : goal.loop-k-preserved
loop-k-preserved c = (
  omega (arith, c.start-cur.ensures.no_mark_lost, c.loop-k.invariant.0),
  ap (walk_from (length c.args.marks.now) (rhs_in c.args.stores.now.old.now c.args.stores.now.new.now c.args.rhss.now) c.args.table.now (c.loop-k.k + 1) (c.args.count - (c.loop-k.k + 1)))
      (c.start-cur.ensures.walks (length c.args.marks.now) (omega (arith, c.loop-k.invariant.0, unmarked-length c.args.marks.now)))
      ∙ sym (walk_step (length c.args.marks.now) (rhs_in c.args.stores.now.old.now c.args.stores.now.new.now c.args.rhss.now) c.args.table.now c.loop-k.k c.args.count (walked c.loop-k.marks c.loop-k.order c.loop-k.cur) c.loop-k-test.true) ∙ c.loop-k.invariant.1,
)

pub returns : goal.returns
unfolding walk_of
returns c =
    sym (walk_end (length c.args.marks.now) (rhs_in c.args.stores.now.old.now c.args.stores.now.new.now c.args.rhss.now) c.args.table.now c.loop-k.k c.args.count (walked c.loop-k.marks c.loop-k.order c.loop-k.cur) c.loop-k-test.false) ∙ c.loop-k.invariant.1
