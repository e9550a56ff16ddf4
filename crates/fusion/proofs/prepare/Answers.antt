-- A circle is refused; what the walk leaves otherwise is an order, by which all is decided and rebuilt. Assumes nothing.
use Rattle.lower.specs.Stores.{Stores, stores_of}
use Rattle.commit_set.proofs.Answers.{walk_asks, outcome}
use Rattle.fusion.specs.Steps.{Ordered, circular, prepared}
use Rattle.fusion.proofs.Running.{ordered, decide_asks, no_circle, long_is, ready}
use lib.ListN.{length, take, drop, length-replicate, length-drop}
use lib.Seq.{take_all}
use native.Mathlib.Omega.{arith}
use Prim.Native.Nat.{ℕ, ◌-◌}
use mathlib.Core.Path.{◌≡◌, sym, subst, ◌∙◌}
use Rattle.fusion.proofs.prepare.Goals as goal

pub order_definitions-walked-requires : goal.order_definitions-walked-requires
order_definitions-walked-requires c =
    let st : Stores = stores_of c.args.system.now in
    rw c.requires.fresh.table_fresh (let a = walk_asks c.args.slots c.args.system.now.sizes st c.requires.no_fault in record { in_bounds = a.0; sound = a.1.0; all_there = a.1.1 })

pub returns-then-walked : goal.returns-then-walked
returns-then-walked c =
    let st : Stores = stores_of c.args.system.now in
    let e = c.requires.fresh.table_fresh in
    let x = (outcome c.args.slots c.args.system.now.sizes st c.requires.no_fault c.order_definitions-walked.result _ (rw e at c.order_definitions-walked.ensures.left_value) (rw e at c.order_definitions-walked.ensures.circle_value) (rw e at c.order_definitions-walked.ensures.order_after)).circle c.if-walked.true in
    circular c.requires.no_fault x.0 x.1

pub decide_in_order-requires : goal.decide_in_order-requires
decide_in_order-requires c =
    let st : Stores = stores_of c.args.system.now in
    let e = c.requires.fresh.table_fresh in
    let left = c.order_definitions-walked.result.left in let all = c.order_definitions-walked.new.order in
    let long : length all ≡ 1024 = c.order_definitions-walked.auto.order ∙ length-replicate {A = ℕ} 1024 0 in
    let whole : take (1024 - left) (drop left all) ≡ drop left all = take_all _ _ (omega (arith, long, length-drop left all)) in
    let k : Ordered c.args.system.now.sizes st c.order_definitions-walked.new.table (take (1024 - left) (drop left all))
    = subst (Ordered c.args.system.now.sizes st c.order_definitions-walked.new.table) (sym whole)
    (ordered c.args.slots c.args.system.now.sizes st c.requires.no_fault c.order_definitions-walked.result _ _ (rw e at c.order_definitions-walked.ensures.left_value) (rw e at c.order_definitions-walked.ensures.circle_value) (rw e at c.order_definitions-walked.ensures.order_after) c.if-walked.false (rw e at c.order_definitions-walked.ensures.table_after) long) in
    let a = decide_asks c.args.slots c.args.system.now.sizes st c.requires.no_fault _ _ k _ c.requires.fresh.decisions_long in
    record { memory_sound = a.0; once = a.1.0; table_numbered = a.1.1.0; in_order = a.1.1.1.0; in_bounds = a.1.1.1.1 }

pub rebuild-requires : goal.rebuild-requires
rebuild-requires c =
    let st : Stores = stores_of c.args.system.now in
    let e = c.requires.fresh.table_fresh in
    let left = c.order_definitions-walked.result.left in let all = c.order_definitions-walked.new.order in
    let long : length all ≡ 1024 = c.order_definitions-walked.auto.order ∙ length-replicate {A = ℕ} 1024 0 in
    let whole : take (1024 - left) (drop left all) ≡ drop left all = take_all _ _ (omega (arith, long, length-drop left all)) in
    let k : Ordered c.args.system.now.sizes st c.order_definitions-walked.new.table (take (1024 - left) (drop left all))
    = subst (Ordered c.args.system.now.sizes st c.order_definitions-walked.new.table) (sym whole)
    (ordered c.args.slots c.args.system.now.sizes st c.requires.no_fault c.order_definitions-walked.result _ _ (rw e at c.order_definitions-walked.ensures.left_value) (rw e at c.order_definitions-walked.ensures.circle_value) (rw e at c.order_definitions-walked.ensures.order_after) c.if-walked.false (rw e at c.order_definitions-walked.ensures.table_after) long) in
    record {
      ready = ready c.args.slots c.args.system.now.sizes st c.requires.no_fault _ _ k _ _ c.decide_in_order.ensures c.requires.fresh.decisions_long;
      ordered = k;
      lengths = (c.requires.fresh.reach_long, c.requires.fresh.out_long, c.requires.fresh.list_long);
    }

pub returns : goal.returns
returns c =
    let st : Stores = stores_of c.args.system.now in
    let e = c.requires.fresh.table_fresh in
    let left = c.order_definitions-walked.result.left in let all = c.order_definitions-walked.new.order in
    let long : length all ≡ 1024 = c.order_definitions-walked.auto.order ∙ length-replicate {A = ℕ} 1024 0 in
    let whole : take (1024 - left) (drop left all) ≡ drop left all = take_all _ _ (omega (arith, long, length-drop left all)) in
    let k : Ordered c.args.system.now.sizes st c.order_definitions-walked.new.table (take (1024 - left) (drop left all))
    = subst (Ordered c.args.system.now.sizes st c.order_definitions-walked.new.table) (sym whole)
    (ordered c.args.slots c.args.system.now.sizes st c.requires.no_fault c.order_definitions-walked.result _ _ (rw e at c.order_definitions-walked.ensures.left_value) (rw e at c.order_definitions-walked.ensures.circle_value) (rw e at c.order_definitions-walked.ensures.order_after) c.if-walked.false (rw e at c.order_definitions-walked.ensures.table_after) long) in
    prepared c.requires.no_fault
    (record {
      no_circle = no_circle c.args.slots c.args.system.now.sizes st c.requires.no_fault _ _ k;
      solves = c.decide_in_order.ensures.solves;
      long = long_is c.args.slots c.args.system.now.sizes st c.requires.no_fault _ _ k _ _ c.decide_in_order.ensures c.requires.fresh.decisions_long;
      table_is = k.table_is;
      reach_in = c.rebuild.ensures.reach_in;
      rebuilt = c.rebuild.ensures.rebuilt;
    })
