use mathlib.Core.Path.{◌≡◌}
use lib.ListN.{drop}
use Rattle.house_write.specs.Sizes.{definitions_wide}
use Rattle.house_write.proofs.count.definitions_wide.Given as goal

abbrev pub invariant-loop-h : goal.invariant-loop-h
invariant-loop-h l = definitions_wide l.rhss ≡ definitions_wide (drop l.h-index l.rhss)
