-- What the table has at the wire, and nothing past its end. Assumes nothing.
use mathlib.Core.Path.{sym}
use Prim.Native.Nat.{ℕ}
use lib.ListN.{get_or-eq_default}
use Rattle.legraph.proofs.node_of.Goals as goal

pub returns-then-table-i : goal.returns-then-table-i
returns-then-table-i c = sym (get_or-eq_default {A = ℕ} c.args.table.now 0 c.if-table-i.true)
