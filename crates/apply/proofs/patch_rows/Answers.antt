-- What is kept and what is filled in are one run of stores. Assumes nothing.
use Rattle.apply.proofs.Kept.{kept_long, struck-told, filled}
use Rattle.apply.specs.Applied.{untouched}
use lib.ListN.{drop}
use lib.Seq.{sets}
use native.Mathlib.Omega.{arith}
use Prim.Native.Nat.{ℕ}
use mathlib.Core.Path.{sym, ap, ◌∙◌}
use Rattle.apply.proofs.patch_rows.Goals as goal

pub overflow_sub-k : goal.overflow_sub-k
overflow_sub-k c = omega (arith, kept_long (untouched c.args.stores.now.old.now c.args.stores.now.new.now c.args.table.now) c.args.k c.args.n c.args.hs.now, c.retain_unsubsumed-at.ensures.value)

pub split_at-requires : goal.split_at-requires
split_at-requires c = omega (arith, struck-told (untouched c.args.stores.now.old.now c.args.stores.now.new.now c.args.table.now) c.args.k c.args.hs.now c.args.n c.retain_unsubsumed-at.result c.retain_unsubsumed-at.ensures.value, c.requires.list_there)

pub extend-requires : goal.extend-requires
extend-requires c =
    let g = kept_long (untouched c.args.stores.now.old.now c.args.stores.now.new.now c.args.table.now) c.args.k c.args.n c.args.hs.now in
    omega (arith, g, c.retain_unsubsumed-at.ensures.value, c.retain_unsubsumed-at.auto.hs, c.split_at.ensures.front_len, c.requires.rows.0)

pub returns : goal.returns
returns c =
    let q = untouched c.args.stores.now.old.now c.args.stores.now.new.now c.args.table.now in record {
      hs_after = filled q c.args.k c.args.hs.now c.args.n c.retain_unsubsumed-at.result c.retain_unsubsumed-at.ensures.value _ _ c.args.list.now c.retain_unsubsumed-at.ensures.hs_after (c.extend.ensures ∙ ap (sets c.retain_unsubsumed-at.new.hs c.retain_unsubsumed-at.result) c.split_at.ensures.front);
      rest = c.split_at.ensures.back ∙ sym (ap (λ (m : ℕ). drop m c.args.list.now) (struck-told q c.args.k c.args.hs.now c.args.n c.retain_unsubsumed-at.result c.retain_unsubsumed-at.ensures.value));
    }
