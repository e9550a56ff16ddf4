-- After each row the list is what is kept so far, written over the list at the entry. Assumes nothing.
use Rattle.lower.specs.Lists.{All}
use Rattle.apply.proofs.Kept.{all_part, rows_next, kept_none, kept_long, row_there, kept_step, at_step}
use Rattle.apply.specs.Applied.{untouched}
use Rattle.lower.specs.Stores.{Stands}
use lib.Seq.{sets}
use lib.ListN.{length}
use native.Mathlib.Omega.{arith}
use Prim.Native.Nat.{◌*◌}
use mathlib.Core.Path.{refl, ap, sym, subst}
use Rattle.apply.proofs.retain_unsubsumed.Goals as goal

pub loop-i-init : goal.loop-i-init
loop-i-init c = let q = untouched c.args.stores.now.old.now c.args.stores.now.new.now c.args.table.now in let z = kept_none q c.args.k c.args.hs.now in
    (sym (ap (sets c.args.hs.now 0) z), sym (ap length z))

pub keep_row-at-requires : goal.keep_row-at-requires
keep_row-at-requires c = let q = untouched c.args.stores.now.old.now c.args.stores.now.new.now c.args.table.now in
    let n = rows_next c.args.k c.loop-i.i c.args.n c.loop-i-test.true in (
      omega (arith, kept_long q c.args.k c.loop-i.i c.args.hs.now, c.loop-i.invariant.1),
      omega (arith, n, c.loop-i.auto.hs, c.requires.0),
      subst (All (Stands c.args.stores.now.old.now c.args.stores.now.new.now)) (sym (row_there q c.args.k c.args.hs.now c.loop-i.hs c.loop-i.hs c.loop-i.i c.loop-i.at (c.args.k * c.loop-i.i) c.loop-i.invariant.0 c.loop-i.invariant.1 refl))
          (all_part (Stands c.args.stores.now.old.now c.args.stores.now.new.now) (c.args.k * c.loop-i.i) c.args.k (c.args.k * c.args.n) c.args.hs.now n c.requires.1),
    )

pub loop-i-preserved : goal.loop-i-preserved
loop-i-preserved c = let q = untouched c.args.stores.now.old.now c.args.stores.now.new.now c.args.table.now in (
  kept_step q c.args.k c.args.hs.now c.loop-i.hs _ c.loop-i.i c.loop-i.at (c.args.k * c.loop-i.i) c.loop-i.invariant.0 c.loop-i.invariant.1 refl c.keep_row-at.ensures.hs_after,
  at_step q c.args.k c.args.hs.now c.loop-i.hs c.loop-i.hs c.loop-i.i c.loop-i.at (c.args.k * c.loop-i.i) c.loop-i.invariant.0 c.loop-i.invariant.1 refl _ c.keep_row-at.ensures.value,
)
