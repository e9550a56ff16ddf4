-- The masks of a decided system, and with them its operands. Assumes nothing.
use Prim.Native.Nat.{ℕ}
use native.Mathlib.Omega.{arith}
use lib.ListN.{length-replicate}
use mathlib.Core.Path.{◌∙◌}
use Rattle.lower.specs.Stores.{Stores, stores_of}
use Rattle.fusion.proofs.Making.{memory, accepted, masks_room, looks_asks, build_asks, rebuilt-made, mask_first}
use Rattle.fusion.proofs.rebuild.Goals as goal

pub masks-requires : goal.masks-requires
masks-requires c =
    let st : Stores = stores_of c.args.system.now in
    let a = accepted c.args.system.now.sizes st c.args.decisions.now c.requires.ready in
    record {
      memory_sound = memory c.args.system.now.sizes st c.args.decisions.now c.requires.ready;
      once = a.once;
      single = a.single;
      in_order = c.requires.ordered.named;
      room = masks_room c.args.system.now.sizes st c.args.decisions.now c.requires.ready _ _ (length-replicate {A = ℕ} 18432 0) c.requires.lengths.0;
    }

pub write_looks-requires : goal.write_looks-requires
write_looks-requires c =
    let a = looks_asks c.args.system.now.sizes (stores_of c.args.system.now) c.args.decisions.now c.requires.ready _ _ c.requires.ordered.table_is (c.masks.auto.alive ∙ length-replicate {A = ℕ} 18432 0) in
    record { lookable = a.0; room = a.1 }

pub build-b-requires : goal.build-b-requires
build-b-requires c =
    let st : Stores = stores_of c.args.system.now in
    record { buildable = build_asks c.args.system.now.sizes st c.args.decisions.now c.requires.ready _ (λ d h. c.write_looks.ensures.masks_kept d (mask_first c.args.system.now.sizes st c.args.decisions.now c.requires.ready d h) ∙ c.masks.ensures.alive_in d h) _ c.requires.ordered.table_is c.write_looks.ensures.looks; room = omega (arith, c.requires.lengths.1) }

pub returns : goal.returns
returns c =
    let st : Stores = stores_of c.args.system.now in
    record {
      reach_in = c.masks.ensures.reach_in;
      filled = c.masks.ensures.filled.1;
      rebuilt = rebuilt-made c.args.system.now.sizes st c.args.decisions.now c.requires.ready _ (λ d h. c.write_looks.ensures.masks_kept d (mask_first c.args.system.now.sizes st c.args.decisions.now c.requires.ready d h) ∙ c.masks.ensures.alive_in d h) _ _ _ _ _ _ c.requires.ordered.table_is c.build-b.ensures.0 c.requires.lengths.2;
    }
