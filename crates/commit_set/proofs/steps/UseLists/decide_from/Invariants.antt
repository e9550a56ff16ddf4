use mathlib.Core.Path.{◌≡◌}
use lib.ListN.{drop}
use Rattle.commit_set.specs.Steps.{held_by, decided_from, Ready}
use Rattle.commit_set.proofs.steps.UseLists.decide_from.Given as goal

abbrev pub invariant-loop-d : goal.invariant-loop-d
invariant-loop-d l = Ready l.slots (held_by l.self) (drop l.d-index l.order) l.decisions × (decided_from l.slots (held_by l.self) (drop l.d-index l.order) l.decisions ≡ decided_from l.slots (held_by l.self) l.order l.initial.decisions)
