-- The masks of the wires, made in the order, are those of the expansions. Assumes nothing.
use Rattle.reach.proofs.Theorem.{all_able, dsts_low, dsts_long, alive_answer, gather_cut, fill_cut}
use Rattle.reach.specs.Steps.{Held, held_in, Able}
use Rattle.lower.specs.Stores.{Stores, stores_of}
use Rattle.lower.specs.Lists.{All}
use Rattle.alive.specs.Masks.{ones}
use lib.ListN.{take, length-replicate}
use lib.Seq.{length-take-le}
use native.Mathlib.Omega.{arith}
use Prim.Native.Nat.{ℕ, ◌<◌}
use mathlib.Core.Path.{sym, ◌∙◌, subst}
use Rattle.reach.proofs.alive_masks.Goals as goal

pub mask_from-requires : goal.mask_from-requires
mask_from-requires c = let st : Stores = stores_of c.args.system.now in let h : Held = held_in c.args.system.now c.args.decisions.now in
    subst (λ (n : ℕ). All (Able h n) c.args.order.now) (sym (length-replicate {A = ℕ} 4096 ones)) (all_able c.args.system.now.sizes st c.requires.memory_sound c.args.decisions.now c.requires.once c.args.order.now c.requires.in_order c.requires.room.0)

pub slice_bounds-gather-end : goal.slice_bounds-gather-end
slice_bounds-gather-end c = sym (length-take-le _ _ (dsts_long c.args.system.now.sizes (stores_of c.args.system.now) c.requires.memory_sound c.args.decisions.now))

pub gather-requires : goal.gather-requires
gather-requires c = let st : Stores = stores_of c.args.system.now in
    (omega (arith, c.requires.room.1, length-take-le _ _ (dsts_long c.args.system.now.sizes st c.requires.memory_sound c.args.decisions.now)), subst (λ (n : ℕ). All (λ (w : ℕ). w < n) (take c.args.system.now.sizes.linears c.args.system.now.dsts.now)) (sym (c.mask_from.auto.masks ∙ length-replicate {A = ℕ} 4096 ones)) (dsts_low c.args.system.now.sizes st c.requires.memory_sound c.args.decisions.now))

pub returns : goal.returns
returns c = let st : Stores = stores_of c.args.system.now in
    record { alive_in = alive_answer c.args.system.now.sizes st c.requires.memory_sound c.args.decisions.now c.requires.once c.args.order.now c.requires.in_order _ (gather_cut _ (dsts_long c.args.system.now.sizes st c.requires.memory_sound c.args.decisions.now) c.mask_from.ensures c.gather.ensures.gathered); filled = fill_cut _ (dsts_long c.args.system.now.sizes st c.requires.memory_sound c.args.decisions.now) c.gather.ensures.filled }
