-- A visit opens a definition, so fewer are unmarked; what is met is entered by the four ways of the definition. Assumes nothing.
use mathlib.Core.Path.{◌≡◌, sym, ap, ◌∙◌, subst}
use mathlib.Core.List.{map}
use native.Mathlib.Omega.{arith}
use lib.ListN.{length, get_or, drop, length-set}
use Prim.Native.Nat.{ℕ, ◌+◌}
use Rattle.operand.specs.Numbers.{term_of}
use Rattle.legraph.specs.Walked.{Walked, walked, over, opened, unmarked, rhs_in, There, Sound, visit as visitOf, enter as enterOf}
use Rattle.legraph.specs.Tables.{told_node}
use Rattle.legraph.proofs.Walks.{marked, fewer, enter-none, enter_circle, enter_new, enter_open, enter-done, over_step, over_end, ended, closed-unmarked, rhs_terms}
use Rattle.legraph.proofs.post_order.+enter_visit.Goals as goal

pub enter-returns-in_default-clause-walks : goal.enter-returns-in_default-clause-walks
enter-returns-in_default-clause-walks t c = λ f le. enter-none _ _ _ (ap told_node c.in_default.is)

pub enter-returns-then-c-clause-walks : goal.enter-returns-then-c-clause-walks
enter-returns-then-c-clause-walks t c = λ f le. enter_circle _ _ _ _ (ap told_node c.in-LinDef.is) c.if-c.true

pub enter-bounds-marks-d : goal.enter-bounds-marks-d
enter-bounds-marks-d t c = (c.requires.leads_there _ (ap told_node c.in-LinDef.is)).0

pub enter-visit-requires : goal.enter-visit-requires
enter-visit-requires t c = (omega arith, (c.requires.sound, (c.requires.leads_there _ (ap told_node c.in-LinDef.is), c.if-m-eq0.true)))

pub enter-returns-then-m-eq0-clause-walks : goal.enter-returns-then-m-eq0-clause-walks
enter-returns-then-m-eq0-clause-walks t c = λ f le. c.visit.ensures.walks f le ∙ enter_new (visitOf f _ _) _ _ _ (ap told_node c.in-LinDef.is) c.if-c.false c.if-m-eq0.true

pub enter-returns-then-m-eq1-clause-walks : goal.enter-returns-then-m-eq1-clause-walks
enter-returns-then-m-eq1-clause-walks t c = λ f le. enter_open _ _ _ _ (ap told_node c.in-LinDef.is) c.if-c.false c.if-m-eq0.false c.if-m-eq1.true

pub enter-returns-clause-walks : goal.enter-returns-clause-walks
enter-returns-clause-walks t c = λ f le. enter-done _ _ _ _ (ap told_node c.in-LinDef.is) c.if-c.false c.if-m-eq0.false c.if-m-eq1.false

pub visit-enter-cur-requires : goal.visit-enter-cur-requires
visit-enter-cur-requires t c =
    let len : length c.loop-t.marks ≡ length c.args.marks.now = c.loop-t.auto.marks ∙ length-set {A = ℕ} c.args.marks.now c.args.d.0 1 in (
      omega (arith, fewer c.args.marks.now c.args.d.0 0 c.requires.there.0 c.requires.not_met, c.loop-t.invariant.marks_bound),
      (
        subst (λ (n : ℕ). Sound c.args.stores.now.old.now c.args.stores.now.new.now c.args.rhss.now c.args.table.now n) (sym len) c.requires.sound,
        λ d e. subst (λ (n : ℕ). There c.args.stores.now.old.now c.args.stores.now.new.now c.args.rhss.now n d) (sym len) (c.requires.sound c.wire.result.0 d (sym c.node_of-node.ensures ∙ e)),
      ),
    )

pub visit-loop-t-preserved : goal.visit-loop-t-preserved
visit-loop-t-preserved t c = record {
  marks_bound = omega (arith, c.enter-cur.ensures.no_mark_lost, c.loop-t.invariant.marks_bound);
  rest = λ f le. ap (over (visitOf f (rhs_in c.args.stores.now.old.now c.args.stores.now.new.now c.args.rhss.now) c.args.table.now) c.args.table.now (map term_of (drop (c.loop-t.t-index + 1) c.terms-ts.result.now)))
      (c.enter-cur.ensures.walks f (omega (arith, c.loop-t.invariant.marks_bound, le)) ∙ ap (enterOf (visitOf f (rhs_in c.args.stores.now.old.now c.args.stores.now.new.now c.args.rhss.now) c.args.table.now) (walked c.loop-t.marks c.loop-t.order c.loop-t.cur)) (c.node_of-node.ensures ∙ ap (λ (x : ℕ). get_or c.args.table.now x 0) c.wire.ensures))
      ∙ sym (over_step (visitOf f (rhs_in c.args.stores.now.old.now c.args.stores.now.new.now c.args.rhss.now) c.args.table.now) c.args.table.now c.terms-ts.result.now c.loop-t.t-index (walked c.loop-t.marks c.loop-t.order c.loop-t.cur) c.loop-t-test.true) ∙ c.loop-t.invariant.rest f le;
}

pub visit-returns-clause-walks : goal.visit-returns-clause-walks
visit-returns-clause-walks t c =
    let w : Walked = walked c.args.marks.now c.args.order.now c.args.c in
    let now : Walked = walked c.loop-t.marks c.loop-t.order c.loop-t.cur in
    λ f le. c.close.ensures ∙ ended (rhs_in c.args.stores.now.old.now c.args.stores.now.new.now c.args.rhss.now) c.args.table.now w now c.args.d.0 c.requires.there.0 c.requires.not_met
    (λ g h. sym (over_end (visitOf g (rhs_in c.args.stores.now.old.now c.args.stores.now.new.now c.args.rhss.now) c.args.table.now) c.args.table.now c.terms-ts.result.now c.loop-t.t-index now (omega arith)) ∙ c.loop-t.invariant.rest g h
    ∙ ap (λ (ts : _). over (visitOf g (rhs_in c.args.stores.now.old.now c.args.stores.now.new.now c.args.rhss.now) c.args.table.now) c.args.table.now ts (opened w c.args.d.0)) (rhs_terms c.args.stores.now.old.now c.args.stores.now.new.now c.args.rhss.now c.terms-ts.result.now c.args.d.0 c.terms-ts.ensures)) f le

pub visit-returns-clause-no_mark_lost : goal.visit-returns-clause-no_mark_lost
visit-returns-clause-no_mark_lost t c =
    omega (arith, ap (λ (x : Walked). unmarked x.marks) c.close.ensures, closed-unmarked (walked c.loop-t.marks c.loop-t.order c.loop-t.cur) c.args.d.0, c.loop-t.invariant.marks_bound, marked c.args.marks.now c.args.d.0 0)
