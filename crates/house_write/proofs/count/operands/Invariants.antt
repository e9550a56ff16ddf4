use mathlib.Core.Path.{◌≡◌}
use Prim.Native.Nat.{◌+◌, ◌*◌, ◌≤◌}
use lib.ListN.{drop}
use Rattle.house_write.specs.Sizes.{handles_size}
use Rattle.house_write.proofs.count.operands.Given as goal

abbrev pub invariant-loop-h : goal.invariant-loop-h
invariant-loop-h l = (handles_size l.hs ≡ l.sum + handles_size (drop l.h-index l.hs)) × (l.sum ≤ 25769803776 * l.h-index)
