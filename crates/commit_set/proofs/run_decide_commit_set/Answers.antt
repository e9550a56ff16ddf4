-- The walk answers 11 or gives an order, and the order solves the system. Assumes nothing.
use mathlib.Core.Path.{◌≡◌, refl, sym, ◌∙◌, subst}
use Prim.Native.Nat.{ℕ, ◌-◌}
use native.Mathlib.Omega.{arith}
use lib.ListN.{length, take, drop, length-replicate, length-drop}
use mathlib.Core.List.{Memᴰ}
use mathlib.Core.Bool.{false}
use Rattle.std.proofs.lemmas.List.{take_all}
use Rattle.lower.specs.Stores.{stores_of, system_in}
use Rattle.commit_set.specs.Answer.{circular, short, decided}
use Rattle.commit_set.specs.Orders.{InOrder}
use Rattle.commit_set.proofs.Answers.{memory_none, once, walk_asks, outcome}
use Rattle.commit_set.proofs.run_decide_commit_set.Goals as goal

pub order_definitions-walked-requires : goal.order_definitions-walked-requires
order_definitions-walked-requires c =
    let w = walk_asks c.args.slots c.args.system.now.sizes (stores_of c.args.system.now) c.requires in
    record { in_bounds = w.0; sound = w.1.0; all_there = w.1.1 }

pub returns-then-walked : goal.returns-then-walked
returns-then-walked c =
    let x = (outcome c.args.slots c.args.system.now.sizes (stores_of c.args.system.now) c.requires c.order_definitions-walked.result _ c.order_definitions-walked.ensures.left_value c.order_definitions-walked.ensures.circle_value c.order_definitions-walked.ensures.order_after).circle c.if-walked.true in
    circular c.requires x.0 x.1 refl

pub returns-then-decisions-system : goal.returns-then-decisions-system
returns-then-decisions-system c =
    short c.requires ((outcome c.args.slots c.args.system.now.sizes (stores_of c.args.system.now) c.requires c.order_definitions-walked.result _ c.order_definitions-walked.ensures.left_value c.order_definitions-walked.ensures.circle_value c.order_definitions-walked.ensures.order_after).none c.if-walked.false) c.if-decisions-system.true refl

pub decide_in_order-requires : goal.decide_in_order-requires
decide_in_order-requires c =
    let left = c.order_definitions-walked.result.left in
    let all = c.order_definitions-walked.new.order in
    let long : length all ≡ 1024 = c.order_definitions-walked.auto.order ∙ length-replicate {A = ℕ} 1024 0 in
    let rest : length (drop left all) ≡ 1024 - left = omega (arith, length-drop left all) in
    let e : take (1024 - left) (drop left all) ≡ drop left all = take_all _ (drop left all) (omega arith) in
    let r = outcome c.args.slots c.args.system.now.sizes (stores_of c.args.system.now) c.requires c.order_definitions-walked.result _ c.order_definitions-walked.ensures.left_value c.order_definitions-walked.ensures.circle_value c.order_definitions-walked.ensures.order_after in
    record {
      memory_sound = memory_none c.args.slots c.args.system.now.sizes (stores_of c.args.system.now) c.requires;
      once = once c.args.slots c.args.system.now.sizes (stores_of c.args.system.now) c.requires;
      table_numbered = c.order_definitions-walked.ensures.table_after;
      in_order = subst (InOrder (system_in c.args.system.now) (λ d. false)) (sym e) (r.ordered c.if-walked.false);
      in_bounds = (λ d m. r.only c.if-walked.false d (subst (Memᴰ d) e m), rw e (omega (arith, rest)), c.if-decisions-system.false);
    }

pub returns : goal.returns
returns c =
    decided c.requires ((outcome c.args.slots c.args.system.now.sizes (stores_of c.args.system.now) c.requires c.order_definitions-walked.result _ c.order_definitions-walked.ensures.left_value c.order_definitions-walked.ensures.circle_value c.order_definitions-walked.ensures.order_after).none c.if-walked.false) c.if-decisions-system.false c.decide_in_order.ensures
