use Rattle.reach.specs.Steps.{pull_terms}
use Rattle.operand.specs.Numbers.{term_of}
use lib.ListN.{drop}
use mathlib.Core.List.{map}
use mathlib.Core.Path.{◌≡◌}
use Rattle.reach.proofs.met.pull_terms.Given as goal

abbrev pub invariant-loop-t : goal.invariant-loop-t
invariant-loop-t l = pull_terms l.m (map term_of (drop l.t-index l.ts)) l.masks ≡ pull_terms l.m (map term_of l.ts) l.initial.masks
