-- The rows that are left are all rows. Assumes nothing.
use Rattle.patch.proofs.Builds.{rows_end, rows_step}
use Rattle.patch.specs.Building.{Built, built_by, build_all, Rooted, rows_in}
use Rattle.patch.specs.Spelling.{Source, source_of, spell}
use Rattle.patch.specs.Steps.{Written}
use Rattle.operand.specs.Numbers.{Term}
use Rattle.lower.specs.Lists.{All}
use Rattle.lower.proofs.Laws.{all_left, all_right}
use Rattle.std.specs.Slice.Iter.{chunks_exact_rest, chunks_exact_size}
use lib.ListN.{length}
use native.Mathlib.Omega.{arith}
use Prim.Native.Nat.{ℕ, ◌/◌}
use mathlib.Core.List.{List}
use mathlib.Core.Path.{◌≡◌, sym, ap, ◌∙◌, subst}
use Rattle.patch.proofs.build.build_rows.Goals as goal

pub loop-row-init : goal.loop-row-init
loop-row-init c =
    let q : Source = source_of c.args.source.now in
    let i = c.into_iter-row-iterator.ensures.into_iter_gives in
    let all : chunks_exact_rest c.into_iter-row-iterator.result ≡ c.args.rows.now = ap chunks_exact_rest i ∙ c.chunks_exact-row-items.ensures.rest in
    record {
      sized = ap chunks_exact_size i ∙ c.chunks_exact-row-items.ensures.size;
      rooted = subst (All (Rooted c.args.source.now.stores.old.now c.args.source.now.stores.new.now)) (sym all) c.requires.rooted.0;
      room = c.requires.rooted.1.0;
      left = ap (λ (l : List ℕ). build_all (spell q c.args.below) (rows_in q c.args.width (length l / c.args.width) l) (built_by c.args.out.now c.args.list.now c.args.progress)) all;
    }

pub build_root_patch-cur-requires-clause-rooted : goal.build_root_patch-cur-requires-clause-rooted
build_root_patch-cur-requires-clause-rooted c =
    let P : ℕ → Type 0 = Rooted c.args.source.now.stores.old.now c.args.source.now.stores.new.now in
    (all_left P _ _ (subst (All P) c.in-Some.ensures.steps.1.0 c.loop-row.invariant.rooted), (omega (arith, c.loop-row.invariant.room, c.loop-row.auto.out), omega (arith, c.loop-row.auto.out, c.requires.rooted.1.1)))

pub loop-row-preserved : goal.loop-row-preserved
loop-row-preserved c =
    let q : Source = source_of c.args.source.now in
    let go : Term → Written → Written = spell q c.args.below in
    let y : Built = built_by c.loop-row.out c.loop-row.list c.loop-row.cur in
    let P : ℕ → Type 0 = Rooted c.args.source.now.stores.old.now c.args.source.now.stores.new.now in
    let e = c.in-Some.ensures.steps in
    record {
      sized = e.0 ∙ c.loop-row.invariant.sized;
      rooted = all_right P _ _ (subst (All P) e.1.0 c.loop-row.invariant.rooted);
      room = omega (arith, c.build_root_patch-cur.ensures.1, c.loop-row.auto.out);
      left = ap (build_all go (rows_in q c.args.width (length (chunks_exact_rest c.next.new.self) / c.args.width) (chunks_exact_rest c.next.new.self))) c.build_root_patch-cur.ensures.0
          ∙ sym (rows_step go q c.args.width c.requires.wide y _ c.in-Some.row.now _ e.1.0 (e.1.1 ∙ c.loop-row.invariant.sized)) ∙ c.loop-row.invariant.left;
    }

pub returns : goal.returns
returns c =
    let q : Source = source_of c.args.source.now in
    let y : Built = built_by c.loop-row.out c.loop-row.list c.loop-row.cur in
    (sym (rows_end (spell q c.args.below) q c.args.width c.requires.wide y (chunks_exact_rest c.loop-row.row-iterator) (omega (arith, c.in-None.ensures.steps.1.0, c.loop-row.invariant.sized))) ∙ c.loop-row.invariant.left, c.loop-row.invariant.room)
