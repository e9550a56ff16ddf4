-- The three kinds of wires: not defined, defined and not committed, committed. Assumes nothing.
use Rattle.patch.proofs.Builds.{build_none, row_single, node_none, node_passed, node_taken}
use Rattle.patch.specs.Building.{Built, built_by, build_all, Rooted}
use Rattle.patch.specs.Spelling.{Source, source_of, spell}
use Rattle.patch.specs.Steps.{Written}
use Rattle.legraph.specs.Tables.{told_node}
use Rattle.operand.specs.Numbers.{Term, Operand, operand_of}
use lib.ListN.{get_or}
use mathlib.Core.List.{List, map}
use native.Mathlib.Omega.{arith}
use Rattle.lower.specs.Lists.{All, done, more}
use Prim.Native.Nat.{ℕ}
use mathlib.Core.Path.{sym, ap, ◌∙◌, subst}
use Rattle.patch.proofs.build.build_committed.Goals as goal

pub returns-in_default : goal.returns-in_default
returns-in_default c = let q : Source = source_of c.args.source.now in let go : Term → Written → Written = spell q c.args.below in let z : Built = built_by c.args.out.now c.args.list.now c.args.progress in
    (sym (ap (λ (os : List Operand). build_all go os z) (node_none q (get_or c.args.source.now.table.now c.args.wire.0 0) (sym c.node_of-node.ensures ∙ ap told_node c.in_default.is)) ∙ build_none go z), c.requires.commits_there.1.0)

pub returns-then-not-is_committed : goal.returns-then-not-is_committed
returns-then-not-is_committed c = let q : Source = source_of c.args.source.now in let go : Term → Written → Written = spell q c.args.below in let z : Built = built_by c.args.out.now c.args.list.now c.args.progress in
    (sym (ap (λ (os : List Operand). build_all go os z) (node_passed q (get_or c.args.source.now.table.now c.args.wire.0 0) _ (sym c.node_of-node.ensures ∙ ap told_node c.in-LinDef.is) (sym c.is_committed.ensures ∙ c.if-not-is_committed.true)) ∙ build_none go z), c.requires.commits_there.1.0)

pub slice_bounds-build_row-start : goal.slice_bounds-build_row-start
slice_bounds-build_row-start c = omega (arith, (c.requires.ready.0 c.args.wire.0 _ (sym c.node_of-node.ensures ∙ ap told_node c.in-LinDef.is)).right_side)

pub slice_bounds-build_row-end : goal.slice_bounds-build_row-end
slice_bounds-build_row-end c = omega (arith, (c.requires.ready.0 c.args.wire.0 _ (sym c.node_of-node.ensures ∙ ap told_node c.in-LinDef.is)).right_side)

pub build_row-requires : goal.build_row-requires
build_row-requires c = let d : ℕ = c.in-LinDef.d.0 in let e = sym c.node_of-node.ensures ∙ ap told_node c.in-LinDef.is in
    record { ready = c.requires.ready; rooted = (subst (All (Rooted c.args.source.now.stores.old.now c.args.source.now.stores.new.now)) (sym (row_single c.args.source.now.rhss.now d (c.requires.ready.0 c.args.wire.0 d e).right_side)) (more (c.requires.commits_there.0 c.args.wire.0 d e) done), c.requires.commits_there.1) }

pub returns : goal.returns
returns c = let q : Source = source_of c.args.source.now in let go : Term → Written → Written = spell q c.args.below in let z : Built = built_by c.args.out.now c.args.list.now c.args.progress in let d : ℕ = c.in-LinDef.d.0 in let e = sym c.node_of-node.ensures ∙ ap told_node c.in-LinDef.is in (
  c.build_row.ensures.0
      ∙ ap (λ (hs : List ℕ). build_all go (map (operand_of c.args.source.now.stores.old.now c.args.source.now.stores.new.now) hs) z) (row_single c.args.source.now.rhss.now d (c.requires.ready.0 c.args.wire.0 d e).right_side)
      ∙ sym (ap (λ (os : List Operand). build_all go os z) (node_taken q (get_or c.args.source.now.table.now c.args.wire.0 0) d e (sym c.is_committed.ensures ∙ c.if-not-is_committed.false))),
  c.build_row.ensures.1,
)
