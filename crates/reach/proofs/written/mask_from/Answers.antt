-- The store with the definitions that are left is the whole. Assumes nothing.
use Rattle.std.specs.Iterator.Adapters.{rev_source}
use Rattle.std.specs.Slice.Iter.{iter_rest}
use Rattle.lower.specs.Lists.{All}
use Rattle.lower.proofs.Laws.{all_left, all_right}
use Rattle.reach.proofs.Storing.{from_last, from_none, all_one}
use Rattle.reach.specs.Steps.{Held, held_in, alive_from, Able}
use lib.ListN.{length}
use Prim.Native.Nat.{ℕ}
use mathlib.Core.List.{List}
use mathlib.Core.Path.{◌≡◌, sym, ap, ◌∙◌, subst}
use Rattle.reach.proofs.written.mask_from.Goals as goal

pub loop-d-init : goal.loop-d-init
loop-d-init c =
    let h : Held = held_in c.args.system.now c.args.decisions.now in
    let e : iter_rest (rev_source c.into_iter-d-iterator.result) ≡ c.args.order.now = ap (λ r. iter_rest (rev_source r)) c.into_iter-d-iterator.ensures.into_iter_gives ∙ ap iter_rest c.rev-d-items.ensures.source ∙ c.iter.ensures.rest in
    record { able = subst (All (Able h (length c.args.masks.now))) (sym e) c.requires; left = ap (λ (ds : List ℕ). alive_from h ds c.args.masks.now) e }

pub mask_one-requires : goal.mask_one-requires
mask_one-requires c =
    let h : Held = held_in c.args.system.now c.args.decisions.now in
    let P : ℕ → Type 0 = Able h (length c.args.masks.now) in
    subst (λ (n : ℕ). Able h n c.in-Some.d.now) (sym c.loop-d.auto.masks) (all_one (all_right P (iter_rest (rev_source c.next.new.self)) _ (subst (All P) c.in-Some.ensures.steps c.loop-d.invariant.able)))

pub loop-d-preserved : goal.loop-d-preserved
loop-d-preserved c =
    let h : Held = held_in c.args.system.now c.args.decisions.now in
    let P : ℕ → Type 0 = Able h (length c.args.masks.now) in
    let e = c.in-Some.ensures.steps in
    record {
      able = all_left P (iter_rest (rev_source c.next.new.self)) _ (subst (All P) e c.loop-d.invariant.able);
      left = ap (alive_from h (iter_rest (rev_source c.next.new.self))) c.mask_one.ensures ∙ sym (from_last h c.in-Some.d.now c.loop-d.masks _) ∙ sym (ap (λ (ds : List ℕ). alive_from h ds c.loop-d.masks) e) ∙ c.loop-d.invariant.left;
    }

pub returns : goal.returns
returns c =
    let h : Held = held_in c.args.system.now c.args.decisions.now in
    sym (from_none h (iter_rest (rev_source c.loop-d.d-iterator)) c.loop-d.masks c.in-None.ensures.steps.0) ∙ c.loop-d.invariant.left
