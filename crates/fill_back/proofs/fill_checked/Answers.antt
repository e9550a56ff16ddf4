-- The walk answers 11 or gives an order, and filling from its end fills back. Assumes nothing.
use Rattle.lower.specs.Lists.{All}
use Rattle.lower.specs.Stores.{Stores, stores_of}
use Rattle.fill_back.specs.Filling.{circular, sized}
use Rattle.fill_back.specs.Steps.{held_in, fill_from, Able}
use Rattle.fill_back.proofs.Running.{table_there, walk_there, outcome, all_able, filled_answer}
use lib.ListN.{length, take, drop, length-replicate, length-drop}
use lib.Seq.{take_all}
use native.Mathlib.Omega.{arith}
use mathlib.Core.List.{List}
use Prim.Native.Nat.{ℕ, ◌-◌}
use mathlib.Core.Path.{◌≡◌, refl, sym, ap, subst, ◌∙◌}
use Rattle.fill_back.proofs.fill_checked.Goals as goal

pub order_definitions-walked-requires : goal.order_definitions-walked-requires
order_definitions-walked-requires c =
    let st : Stores = stores_of c.args.system.now in
    let w = walk_there c.args.system.now.sizes st c.requires _ refl in
    record { in_bounds = table_there c.args.system.now.sizes st c.requires; sound = w.0; all_there = w.1.1 }

pub returns-then-walked : goal.returns-then-walked
returns-then-walked c =
    let st : Stores = stores_of c.args.system.now in
    let r = outcome c.args.system.now.sizes st c.requires _ c.order_definitions-walked.result _ refl c.order_definitions-walked.ensures.left_value c.order_definitions-walked.ensures.circle_value c.order_definitions-walked.ensures.order_after in
    let x = r.circle c.if-walked.true in
    circular c.requires x.0 x.1 refl

pub returns-then-not-lengths_right : goal.returns-then-not-lengths_right
returns-then-not-lengths_right c =
    let st : Stores = stores_of c.args.system.now in
    let r = outcome c.args.system.now.sizes st c.requires _ c.order_definitions-walked.result _ refl c.order_definitions-walked.ensures.left_value c.order_definitions-walked.ensures.circle_value c.order_definitions-walked.ensures.order_after in
    sized c.requires (r.none c.if-walked.false) (sym c.lengths_right.ensures ∙ c.if-not-lengths_right.true) refl

pub fill_from-requires : goal.fill_from-requires
fill_from-requires c =
    let st : Stores = stores_of c.args.system.now in
    let r = outcome c.args.system.now.sizes st c.requires _ c.order_definitions-walked.result _ refl c.order_definitions-walked.ensures.left_value c.order_definitions-walked.ensures.circle_value c.order_definitions-walked.ensures.order_after in
    let left = c.order_definitions-walked.result.left in let all = c.order_definitions-walked.new.order in
    let long : length all ≡ 1024 = c.order_definitions-walked.auto.order ∙ length-replicate {A = ℕ} 1024 0 in
    let e : take (1024 - left) (drop left all) ≡ drop left all = take_all _ _ (omega (arith, long, length-drop left all)) in
    subst (All (Able (held_in c.args.system.now c.args.flags.now) (length c.args.assignment.now))) (sym e)
    (all_able c.args.system.now.sizes st c.requires c.args.flags.now c.args.assignment.now (sym c.lengths_right.ensures ∙ c.if-not-lengths_right.false) _ _ r c.if-walked.false)

pub returns : goal.returns
returns c =
    let st : Stores = stores_of c.args.system.now in
    let r = outcome c.args.system.now.sizes st c.requires _ c.order_definitions-walked.result _ refl c.order_definitions-walked.ensures.left_value c.order_definitions-walked.ensures.circle_value c.order_definitions-walked.ensures.order_after in
    let left = c.order_definitions-walked.result.left in let all = c.order_definitions-walked.new.order in
    let long : length all ≡ 1024 = c.order_definitions-walked.auto.order ∙ length-replicate {A = ℕ} 1024 0 in
    let e : take (1024 - left) (drop left all) ≡ drop left all = take_all _ _ (omega (arith, long, length-drop left all)) in
    filled_answer c.args.system.now.sizes st c.requires c.args.flags.now c.args.assignment.now (sym c.lengths_right.ensures ∙ c.if-not-lengths_right.false) _ _ r c.if-walked.false _
    (c.fill_from.ensures ∙ ap (λ (ds : List ℕ). fill_from (held_in c.args.system.now c.args.flags.now) ds c.args.assignment.now) e)
