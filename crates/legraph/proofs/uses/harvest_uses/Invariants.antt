use Rattle.std.proofs.Common.{◌≡◌, ◌≤◌, length, map, drop}
use Rattle.operand.specs.Numbers.{operand_of}
use Rattle.legraph.specs.Tables.{graph, note_from}
use Rattle.legraph.proofs.uses.harvest_uses.Given as goal

abbrev pub invariant-loop-i : goal.invariant-loop-i
invariant-loop-i l =
    (l.k ≤ length l.initial.uses) × (graph l.first l.uses l.k ≡ note_from l.table l.linear l.i (map (operand_of l.stores.old.now l.stores.new.now) (drop l.i l.hs)) (graph l.initial.first l.initial.uses l.n))
