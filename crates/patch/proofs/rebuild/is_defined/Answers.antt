-- The two kinds of nodes. Assumes nothing.
use Rattle.operand.specs.Numbers.{term_of}
use Rattle.patch.proofs.Spells.{marked_node}
use Prim.Native.Nat.{ℕ}
use mathlib.Core.Path.{sym, ap, ◌∙◌}
use mathlib.Core.Bool.{not}
use lib.ListN.{get_or}
use lib.Dec.{eqb}
use Rattle.legraph.specs.Tables.{told_node}
use Rattle.patch.proofs.rebuild.is_defined.Goals as goal

pub returns-in-LinDef : goal.returns-in-LinDef
returns-in-LinDef c = marked_node c.args.table.now (term_of c.args.t).wire _ (ap (λ (w : ℕ). get_or c.args.table.now w 0) (sym c.wire.ensures) ∙ sym c.node_of.ensures ∙ ap told_node c.in-LinDef.is)

pub returns-in-Opaque : goal.returns-in-Opaque
returns-in-Opaque c = sym (ap (λ (x : ℕ). not (eqb x 0)) (ap (λ (w : ℕ). get_or c.args.table.now w 0) (sym c.wire.ensures) ∙ sym c.node_of.ensures ∙ ap told_node c.in-Opaque.is))
