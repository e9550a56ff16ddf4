use Rattle.reach.specs.Steps.{held_in, reach_from}
use lib.ListN.{drop}
use mathlib.Core.Path.{◌≡◌}
use Rattle.reach.proofs.met.reach_from.Given as goal

abbrev pub invariant-loop-d : goal.invariant-loop-d
invariant-loop-d l = reach_from (held_in l.system l.decisions) (drop l.d-index l.order) l.masks ≡ reach_from (held_in l.system l.decisions) l.order l.initial.masks
