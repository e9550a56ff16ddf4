use Rattle.std.proofs.lemmas.List.Edits.{sets}
use lib.ListN.{drop}
use mathlib.Core.Path.{◌≡◌}
use Rattle.tell.proofs.lay.Given as goal

abbrev pub invariant-loop-i : goal.invariant-loop-i
invariant-loop-i l = sets l.initial.values 0 l.answer ≡ sets l.values l.i (drop l.i l.answer)
