-- What the table has, unless it is committed. Assumes nothing.
use mathlib.Core.Path.{sym, ap, ◌∙◌}
use Rattle.legraph.specs.Tables.{told_node}
use Rattle.patch.proofs.expand.inlined.Goals as goal

pub returns-in_default-clause-node : goal.returns-in_default-clause-node
returns-in_default-clause-node c = rw (sym c.node_of-node.ensures ∙ ap told_node c.in_default.is)

pub returns-then-is_committed-clause-node : goal.returns-then-is_committed-clause-node
returns-then-is_committed-clause-node c = rw (sym c.node_of-node.ensures ∙ ap told_node c.in-LinDef.is, sym c.is_committed.ensures ∙ c.if-is_committed.true)

pub returns-clause-node : goal.returns-clause-node
returns-clause-node c = rw (sym c.node_of-node.ensures ∙ ap told_node c.in-LinDef.is, sym c.is_committed.ensures ∙ c.if-is_committed.false)
