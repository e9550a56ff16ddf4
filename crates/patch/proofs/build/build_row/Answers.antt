-- The operands that are left are the whole row. Assumes nothing.
use Rattle.patch.proofs.Builds.{row_step, row_end}
use Rattle.patch.specs.Building.{Built, built_by, build_all, Rooted}
use Rattle.patch.specs.Spelling.{Source, source_of, spell}
use Rattle.patch.specs.Steps.{Written}
use Rattle.commit_set.proofs.Members.{all_get}
use Rattle.operand.specs.Numbers.{Term, Operand, operand_of}
use lib.ListN.{drop}
use native.Mathlib.Omega.{arith}
use mathlib.Core.List.{map}
use Prim.Native.Nat.{ℕ, ◌+◌}
use mathlib.Core.Path.{refl, sym, ap, ◌∙◌}
use Rattle.patch.proofs.build.build_row.Goals as goal

pub loop-h-init : goal.loop-h-init
loop-h-init c = (omega arith, refl, c.requires.rooted.1.0, refl, refl)

pub build_one-cur-requires : goal.build_one-cur-requires
build_one-cur-requires c =
    record { ready = c.requires.ready; rooted = (all_get (Rooted c.args.source.now.stores.old.now c.args.source.now.stores.new.now) c.args.row.now c.loop-h.h-index 0 c.requires.rooted.0 c.loop-h-test.true, (omega (arith, c.loop-h.invariant.1, c.loop-h.invariant.2), omega (arith, c.loop-h.invariant.1, c.requires.rooted.1.1))) }

pub loop-h-preserved : goal.loop-h-preserved
loop-h-preserved c = let q : Source = source_of c.args.source.now in let go : Term → Written → Written = spell q c.args.below in let f : ℕ → Operand = operand_of c.args.source.now.stores.old.now c.args.source.now.stores.new.now in let y : Built = built_by c.loop-h.out c.loop-h.list c.loop-h.cur in (
  omega (arith, c.loop-h-test.true),
  omega arith,
  omega (arith, c.build_one-cur.ensures.1, c.loop-h.invariant.1),
  ap (build_all go (map f (drop (c.loop-h.h-index + 1) c.args.row.now))) c.build_one-cur.ensures.0 ∙ sym (row_step go f c.args.row.now c.loop-h.h-index y c.loop-h-test.true) ∙ c.loop-h.invariant.3,
  omega arith,
)

pub returns : goal.returns
returns c = let q : Source = source_of c.args.source.now in let go : Term → Written → Written = spell q c.args.below in let f : ℕ → Operand = operand_of c.args.source.now.stores.old.now c.args.source.now.stores.new.now in let y : Built = built_by c.loop-h.out c.loop-h.list c.loop-h.cur in
    (sym (row_end go f c.args.row.now c.loop-h.h-index y c.loop-h-test.false) ∙ c.loop-h.invariant.3, c.loop-h.invariant.2)
