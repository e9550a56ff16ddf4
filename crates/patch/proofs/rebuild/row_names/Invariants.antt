use Prim.Native.Nat.{ℕ}
use mathlib.Core.Path.{◌≡◌}
use mathlib.Core.List.{map}
use lib.ListN.{drop}
use Rattle.patch.specs.Spelling.{names_one, row_names}
use Rattle.operand.specs.Numbers.{operand_of}
use Rattle.lower.specs.Lists.{some_of}
use Rattle.patch.proofs.rebuild.row_names.Given as goal

abbrev pub invariant-loop-h : goal.invariant-loop-h
invariant-loop-h l = row_names l.table (map (operand_of l.stores.old.now l.stores.new.now) l.row) ≡ some_of (λ (h : ℕ). names_one l.table (operand_of l.stores.old.now l.stores.new.now h)) (drop l.h-index l.row)
