-- What the table has at the term's wire decides. Assumes nothing.
use Prim.Native.Nat.{ℕ}
use lib.ListN.{get_or}
use mathlib.Core.Path.{◌≡◌, sym, ap, ◌∙◌}
use native.Mathlib.Omega.{arith}
use Rattle.operand.specs.Numbers.{term_of}
use Rattle.legraph.specs.Tables.{graph, told_node}
use Rattle.legraph.proofs.Laws.{note_opaque, note_defined}
use Rattle.legraph.proofs.uses.note_use.Goals as goal

pub returns-in_default : goal.returns-in_default
returns-in_default c =
    let e : get_or c.args.table.now (term_of c.args.t).wire 0 ≡ 0 = ap (λ (w : ℕ). get_or c.args.table.now w 0) (sym c.wire.ensures) ∙ sym c.node_of-node.ensures ∙ ap told_node c.in_default.is in
    (note_opaque c.args.user (term_of c.args.t).inner _ (graph c.args.first.now c.args.uses.now c.args.n) e, omega arith)

pub returns : goal.returns
returns c = (
  c.add_edge.ensures.0 ∙ rw c.inner.ensures (note_defined c.args.user (term_of c.args.t).inner _ _ (graph c.args.first.now c.args.uses.now c.args.n)
      (ap (λ (w : ℕ). get_or c.args.table.now w 0) (sym c.wire.ensures) ∙ sym c.node_of-node.ensures ∙ ap told_node c.in-LinDef.is)),
  c.add_edge.ensures.1,
)
