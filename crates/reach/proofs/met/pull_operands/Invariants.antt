use Rattle.reach.specs.Steps.{pull_operands}
use lib.ListN.{drop}
use mathlib.Core.Path.{◌≡◌}
use Rattle.reach.proofs.met.pull_operands.Given as goal

abbrev pub invariant-loop-h : goal.invariant-loop-h
invariant-loop-h l = pull_operands l.stores.old.now l.stores.new.now (drop l.h-index l.hs) l.masks ≡ pull_operands l.stores.old.now l.stores.new.now l.hs l.initial.masks
