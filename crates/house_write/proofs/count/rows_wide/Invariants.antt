use mathlib.Core.Path.{◌≡◌}
use Prim.Native.Nat.{◌-◌, ◌*◌, ◌≤◌}
use lib.ListN.{length}
use Rattle.house_write.specs.Sizes.{rows_wide}
use Rattle.house_write.proofs.count.rows_wide.Given as goal

abbrev pub invariant-loop : goal.invariant-loop
invariant-loop l = (rows_wide l.k l.n l.hs ≡ rows_wide l.k (l.n - l.counter) l.rest) × (l.k * (l.n - l.counter) ≤ length l.rest)
