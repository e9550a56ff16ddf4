-- The masks of the wires, made from the constraints and then in the order, are those of what is met. Assumes nothing.
use Rattle.reach.proofs.Theorem.{all_able, dsts_low, dsts_long, ands_pull, imuls_pull, bmuls_pull, zeros_pull, reach_answer, gather_cut, fill_cut}
use Rattle.reach.specs.Steps.{Held, held_in, Able, Pullable, reach_from}
use Rattle.lower.specs.Stores.{Stores, stores_of}
use Rattle.lower.specs.Lists.{All}
use lib.ListN.{take, length-replicate}
use lib.Seq.{length-take-le}
use native.Mathlib.Omega.{arith}
use Prim.Native.Nat.{ℕ, ◌*◌, ◌<◌}
use mathlib.Core.Path.{sym, ap, ◌∙◌, subst}
use Rattle.reach.proofs.reach_masks.Goals as goal

pub pull_rows-requires : goal.pull_rows-requires
pull_rows-requires c = let st : Stores = stores_of c.args.system.now in let k = sym (length-replicate {A = ℕ} 4096 0) in record {
  ands_pullable = subst (λ (n : ℕ). Pullable c.args.system.now.stores.old.now c.args.system.now.stores.new.now n c.args.system.now.ands.now (3 * c.args.system.now.sizes.ands)) k (ands_pull c.args.system.now.sizes st c.requires.memory_sound c.args.decisions.now);
  imuls_pullable = subst (λ (n : ℕ). Pullable c.args.system.now.stores.old.now c.args.system.now.stores.new.now n c.args.system.now.imuls.now (4 * c.args.system.now.sizes.imuls)) k (imuls_pull c.args.system.now.sizes st c.requires.memory_sound c.args.decisions.now);
  bmuls_pullable = subst (λ (n : ℕ). Pullable c.args.system.now.stores.old.now c.args.system.now.stores.new.now n c.args.system.now.bmuls.now (6 * c.args.system.now.sizes.bmuls)) k (bmuls_pull c.args.system.now.sizes st c.requires.memory_sound c.args.decisions.now);
  zeros_pullable = subst (λ (n : ℕ). Pullable c.args.system.now.stores.old.now c.args.system.now.stores.new.now n c.args.system.now.zeros.now c.args.system.now.sizes.zeros) k (zeros_pull c.args.system.now.sizes st c.requires.memory_sound c.args.decisions.now);
}

pub reach_from-requires : goal.reach_from-requires
reach_from-requires c = let st : Stores = stores_of c.args.system.now in let h : Held = held_in c.args.system.now c.args.decisions.now in
    subst (λ (n : ℕ). All (Able h n) c.args.order.now) (sym (c.pull_rows.auto.masks ∙ length-replicate {A = ℕ} 4096 0)) (all_able c.args.system.now.sizes st c.requires.memory_sound c.args.decisions.now c.requires.once c.args.order.now c.requires.in_order c.requires.room.0)

pub slice_bounds-gather-end : goal.slice_bounds-gather-end
slice_bounds-gather-end c = sym (length-take-le _ _ (dsts_long c.args.system.now.sizes (stores_of c.args.system.now) c.requires.memory_sound c.args.decisions.now))

pub gather-requires : goal.gather-requires
gather-requires c = let st : Stores = stores_of c.args.system.now in
    (omega (arith, c.requires.room.1, length-take-le _ _ (dsts_long c.args.system.now.sizes st c.requires.memory_sound c.args.decisions.now)), subst (λ (n : ℕ). All (λ (w : ℕ). w < n) (take c.args.system.now.sizes.linears c.args.system.now.dsts.now)) (sym (c.reach_from.auto.masks ∙ c.pull_rows.auto.masks ∙ length-replicate {A = ℕ} 4096 0)) (dsts_low c.args.system.now.sizes st c.requires.memory_sound c.args.decisions.now))

pub returns : goal.returns
returns c = let st : Stores = stores_of c.args.system.now in let h : Held = held_in c.args.system.now c.args.decisions.now in record {
  reach_in = reach_answer c.args.system.now.sizes st c.requires.memory_sound c.args.decisions.now c.requires.once c.args.order.now c.requires.in_order c.requires.single _
      (gather_cut _ (dsts_long c.args.system.now.sizes st c.requires.memory_sound c.args.decisions.now) (c.reach_from.ensures ∙ ap (reach_from h c.args.order.now) c.pull_rows.ensures) c.gather.ensures.gathered);
  filled = fill_cut _ (dsts_long c.args.system.now.sizes st c.requires.memory_sound c.args.decisions.now) c.gather.ensures.filled;
}
