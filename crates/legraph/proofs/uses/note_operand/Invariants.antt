use Rattle.std.proofs.Common.{◌≡◌, ◌≤◌, length, map, drop}
use Rattle.operand.specs.Numbers.{term_of}
use Rattle.legraph.specs.Tables.{graph, note_terms}
use Rattle.legraph.proofs.uses.note_operand.Given as goal

abbrev pub invariant-loop-i : goal.invariant-loop-i
invariant-loop-i l = (l.k ≤ length l.initial.uses) × (graph l.first l.uses l.k ≡ note_terms l.table l.user (map term_of (drop l.i l.ts)) (graph l.initial.first l.initial.uses l.n))
