use Rattle.std.proofs.Common.{◌≡◌, drop}
use Rattle.legraph.specs.Tables.{numbered}
use Rattle.legraph.proofs.add_lin_defs.Given as goal

abbrev pub invariant-loop-i : goal.invariant-loop-i
invariant-loop-i l = l.table ≡ numbered l.i (drop l.i l.dsts) l.initial.table
