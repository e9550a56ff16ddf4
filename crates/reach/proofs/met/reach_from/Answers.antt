-- The store with the definitions that are left taken is the whole. Assumes nothing.
use Rattle.reach.proofs.Pulling.{reach_go, reach_end}
use Rattle.commit_set.proofs.Members.{all_get}
use Rattle.reach.specs.Steps.{Held, held_in, reach_from, Able}
use lib.ListN.{length, drop, get_or}
use Prim.Native.Nat.{ℕ, ◌+◌}
use mathlib.Core.Path.{refl, sym, ap, ◌∙◌, subst}
use Rattle.reach.proofs.met.reach_from.Goals as goal

pub loop-d-init : goal.loop-d-init
loop-d-init c = refl

pub reach_one-requires : goal.reach_one-requires
reach_one-requires c = let h : Held = held_in c.args.system.now c.args.decisions.now in
    subst (λ (n : ℕ). Able h n (get_or c.args.order.now c.loop-d.d-index 0)) (sym c.loop-d.auto.masks) (all_get (Able h (length c.args.masks.now)) c.args.order.now c.loop-d.d-index 0 c.requires c.loop-d-test.true)

pub loop-d-preserved : goal.loop-d-preserved
loop-d-preserved c =
    let h : Held = held_in c.args.system.now c.args.decisions.now in
    ap (reach_from h (drop (c.loop-d.d-index + 1) c.args.order.now)) c.reach_one.ensures ∙ sym (reach_go h c.args.order.now c.loop-d.masks c.loop-d.d-index c.loop-d-test.true) ∙ c.loop-d.invariant

pub returns : goal.returns
returns c = sym (reach_end (held_in c.args.system.now c.args.decisions.now) c.args.order.now c.loop-d.masks c.loop-d.d-index c.loop-d-test.false) ∙ c.loop-d.invariant
