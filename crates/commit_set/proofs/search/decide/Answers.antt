-- What is to be found is said of the uses and the terms that are left; a sum over the slots commits at once. Assumes nothing.
use Prim.Native.Nat.{ℕ, ◌-◌, ◌≤◌}
use mathlib.Core.Path.{◌≡◌, refl, sym, ap, ◌∙◌, ap₂}
use mathlib.Core.List.{map}
use native.Mathlib.Omega.{arith}
use lib.ListN.{length, get_or}
use Rattle.legraph.proofs.Listing.{listed_step, listed_end}
use Rattle.legraph.specs.Tables.{use_at, next_at, listed}
use Rattle.operand.specs.Numbers.{term_of}
use Rattle.shift.specs.Shifts.{shift_at}
use Rattle.commit_set.specs.Numbers.{state_at}
use Rattle.commit_set.specs.Decision.{context_of, shifts_of}
use Rattle.commit_set.specs.Runs.{join, join_all, plus}
use Rattle.commit_set.specs.declared.CommitSetCx.{CommitSetCx}
use Rattle.commit_set.specs.declared.ShiftSummary.{ShiftSummary}
use Rattle.commit_set.proofs.Joining.{none-join, join_step}
use Rattle.commit_set.proofs.Searching.{one_more, all_done, left_at}
use Rattle.commit_set.proofs.Seeking.{enter, enter_many, pass, hit, leave, leave_many, shift_at_lem, shifts_length}
use Rattle.commit_set.proofs.search.decide.Goals as goal
use Rattle.commit_set.proofs.search.decide.Goals.{else-out-test, then-out-test+then-loop-t-test+then-slots-len}

pub out-init : goal.out-init
out-init c = (omega arith, refl, refl, refl, none-join _, omega arith)

pub bounds-uses-h : goal.bounds-uses-h
bounds-uses-h c = omega (arith, c.requires.2.inside, c.out.invariant.0)

pub loop-t-init : goal.loop-t-init
loop-t-init c =
    let e = ap (map (context_of (state_at c.args.decisions.now))) (listed_step c.args.uses.now c.args.first c.out.h c.requires.2 c.out-test.true (omega (arith, c.out.invariant.0))) in
    (c.out.invariant.1, enter e (shifts_of (map term_of c.args.ts.now)) c.args.slots _ c.out.invariant.2, enter_many e (shifts_of (map term_of c.args.ts.now)) c.out.many _ c.out.invariant.3)

pub loop-t-preserved : goal.loop-t-preserved
loop-t-preserved c = let u = get_or c.args.uses.now (c.out.h - 1) 0 in
    let x : CommitSetCx = context_of (state_at c.args.decisions.now) (use_at u) in
    let ss = shifts_of (map term_of c.args.ts.now) in
    let t = shift_at (term_of (get_or c.args.ts.now c.loop-t.t-index 0)).inner in
    let e = shift_at_lem c.args.ts.now c.loop-t.t-index c.loop-t-test.true in
    let p : c.len_with-len.result ≡ (plus x.shifts t).len = c.len_with-len.ensures ∙ ap₂ (λ (r : ShiftSummary) (n : ℕ). (plus r (shift_at n)).len) (ap (λ (y : CommitSetCx). y.shifts) c.context_of-cx.ensures) c.inner.ensures in
    (c.loop-t.invariant.0, pass x ss c.loop-t.t-index t e p c.args.slots _ _ c.if-slots-len.false c.loop-t.invariant.1, one_more x ss c.loop-t.t-index t e p c.loop-t.many _ _ _ refl c.loop-t.invariant.2)

pub out-smaller : goal.out-smaller
out-smaller c = omega (arith, c.requires.2.falls (c.out.h - 1) (omega (arith, c.out.invariant.0, c.out-test.true)), c.out-test.true)

pub out-preserved : goal.out-preserved
out-preserved c = let u = get_or c.args.uses.now (c.out.h - 1) 0 in
    let x : CommitSetCx = context_of (state_at c.args.decisions.now) (use_at u) in
    let ss = shifts_of (map term_of c.args.ts.now) in
    let rest = map (context_of (state_at c.args.decisions.now)) (listed (next_at u) c.args.uses.now (next_at u)) in
    let e = ap (map (context_of (state_at c.args.decisions.now))) (listed_step c.args.uses.now c.args.first c.out.h c.requires.2 c.out-test.true (omega (arith, c.out.invariant.0))) in
    let k : length ss ≤ c.loop-t.t-index = omega (arith, shifts_length c.args.ts.now, c.loop-t-test.false) in (
      omega (arith, c.requires.2.falls (c.out.h - 1) (omega (arith, c.out.invariant.0, c.out-test.true)), c.out.invariant.0, c.out-test.true),
      c.loop-t.invariant.0,
      leave x ss c.loop-t.t-index k c.args.slots _ _ c.loop-t.invariant.1,
      leave_many x ss c.loop-t.t-index k c.loop-t.many _ _ c.loop-t.invariant.2,
      ap (λ (y : CommitSetCx). join y (join_all rest)) (c.join-joined.ensures ∙ ap (join c.out.joined) c.context_of-cx.ensures) ∙ sym (join_step c.out.joined x e) ∙ c.out.invariant.4,
      omega (arith, c.out.invariant.5, ap length e),
    )

pub conclude-requires : goal.conclude-requires
conclude-requires c =
    (c.requires.0, elim c.out-test.branch [ else-out-test w ↦ omega (arith, w.n-is, c.out.invariant.0, c.requires.1) | then-out-test+then-loop-t-test+then-slots-len w ↦ omega (arith, w.n-is, c.out.invariant.0, c.requires.1, w.out-test.true) ])

pub returns : goal.returns
returns c =
    let ss = shifts_of (map term_of c.args.ts.now) in
    let all = map (context_of (state_at c.args.decisions.now)) (listed c.args.first c.args.uses.now c.args.first) in
    c.conclude.ensures ∙ elim c.out-test.branch [
      | else-out-test w ↦
          rw (w.over-is, w.many-is, w.joined-is, w.n-is) (all_done c.args.slots all (map (context_of (state_at c.args.decisions.now)) (listed c.out.h c.args.uses.now c.out.h)) ss c.out.over c.out.many c.out.joined (length c.args.ts.now) c.out.n
          (ap (map (context_of (state_at c.args.decisions.now))) (listed_end c.args.uses.now c.out.h (omega (arith, w.out-test.false)))) (sym (shifts_length c.args.ts.now)) c.out.invariant.1 c.out.invariant.2 c.out.invariant.3 c.out.invariant.4 c.out.invariant.5)
      | then-out-test+then-loop-t-test+then-slots-len w ↦
          let u = get_or c.args.uses.now (c.out.h - 1) 0 in
          let x : CommitSetCx = context_of (state_at c.args.decisions.now) (use_at u) in
          let t = shift_at (term_of (get_or c.args.ts.now w.loop-t.t-index 0)).inner in
          let p : w.len_with-len.result ≡ (plus x.shifts t).len = w.len_with-len.ensures ∙ ap₂ (λ (r : ShiftSummary) (n : ℕ). (plus r (shift_at n)).len) (ap (λ (y : CommitSetCx). y.shifts) w.context_of-cx.ensures) w.inner.ensures in
          left_at c.args.slots all ss c.out-test.over c.out-test.many c.out-test.joined (length c.args.ts.now) c.out-test.n w.over-is
          (hit x ss w.loop-t.t-index t (shift_at_lem c.args.ts.now w.loop-t.t-index w.loop-t-test.true) p c.args.slots _ _ w.if-slots-len.true w.loop-t.invariant.1)
    ]
