-- A row that names no defined wire has no operand to rebuild. Assumes nothing.
use Rattle.patch.proofs.Builds.{build_none, row_passed, row-taken}
use Rattle.patch.specs.Building.{Built, built_by, build_all, Rooted}
use Rattle.patch.specs.Spelling.{Source, source_of, spell}
use Rattle.patch.specs.Steps.{Written}
use Rattle.lower.proofs.Laws.{all_imp}
use Rattle.lower.specs.Stores.{Stands}
use Rattle.operand.specs.Numbers.{Term, Operand, operand_of}
use mathlib.Core.List.{List, map}
use Prim.Native.Nat.{ℕ}
use mathlib.Core.Path.{sym, ap, ◌∙◌}
use Rattle.patch.proofs.build.build_root_patch.Goals as goal

pub row_names-requires : goal.row_names-requires
row_names-requires c = all_imp {P = Rooted c.args.source.now.stores.old.now c.args.source.now.stores.new.now} {Q = Stands c.args.source.now.stores.old.now c.args.source.now.stores.new.now} (λ h p. p.0) c.args.row.now c.requires.rooted.0

pub returns-then-not-row_names : goal.returns-then-not-row_names
returns-then-not-row_names c = let q : Source = source_of c.args.source.now in let go : Term → Written → Written = spell q c.args.below in let f : ℕ → Operand = operand_of c.args.source.now.stores.old.now c.args.source.now.stores.new.now in let z : Built = built_by c.args.out.now c.args.list.now c.args.progress in
    (sym (ap (λ (os : List Operand). build_all go os z) (row_passed q (map f c.args.row.now) (sym c.row_names.ensures ∙ c.if-not-row_names.true)) ∙ build_none go z), c.requires.rooted.1.0)

pub build_row-requires : goal.build_row-requires
build_row-requires c = record { ready = c.requires.ready; rooted = c.requires.rooted }

pub returns : goal.returns
returns c = let q : Source = source_of c.args.source.now in let go : Term → Written → Written = spell q c.args.below in let f : ℕ → Operand = operand_of c.args.source.now.stores.old.now c.args.source.now.stores.new.now in let z : Built = built_by c.args.out.now c.args.list.now c.args.progress in
    (c.build_row.ensures.0 ∙ sym (ap (λ (os : List Operand). build_all go os z) (row-taken q (map f c.args.row.now) (sym c.row_names.ensures ∙ c.if-not-row_names.false))), c.build_row.ensures.1)
