-- The store with the definitions that are left decided is the whole. Assumes nothing.
use mathlib.Core.Path.{refl, sym, ap, ◌∙◌, subst}
use mathlib.Core.List.{List}
use Prim.Native.Nat.{ℕ, ◌+◌}
use lib.ListN.{drop}
use Rattle.commit_set.specs.Steps.{Held, held_by, decided_from, Ready}
use Rattle.commit_set.proofs.Stepping.{from_step, from_end, ready_here, ready_next}
use Rattle.commit_set.proofs.steps.UseLists.decide_from.Goals as goal

pub loop-d-init : goal.loop-d-init
loop-d-init c = (c.requires, refl)

pub decide_one-requires : goal.decide_one-requires
decide_one-requires c = ready_here c.args.slots (held_by c.args.self.now) c.loop-d.decisions c.args.order.now c.loop-d.d-index c.loop-d-test.true c.loop-d.invariant.0

pub loop-d-preserved : goal.loop-d-preserved
loop-d-preserved c =
    let h : Held = held_by c.args.self.now in
    let i = c.loop-d.d-index in (
      subst (λ (x : List ℕ). Ready c.args.slots h (drop (i + 1) c.args.order.now) x) (sym c.decide_one.ensures) (ready_next c.args.slots h c.loop-d.decisions c.args.order.now i c.loop-d-test.true c.loop-d.invariant.0),
      ap (decided_from c.args.slots h (drop (i + 1) c.args.order.now)) c.decide_one.ensures ∙ sym (from_step c.args.slots h c.loop-d.decisions c.args.order.now i c.loop-d-test.true) ∙ c.loop-d.invariant.1,
    )

pub returns : goal.returns
returns c =
    sym (from_end c.args.slots (held_by c.args.self.now) c.loop-d.decisions c.args.order.now c.loop-d.d-index c.loop-d-test.false) ∙ c.loop-d.invariant.1
