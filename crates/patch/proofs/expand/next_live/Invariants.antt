use lib.ListN.{length, get_or}
use lib.Bits.{bit_and}
use mathlib.Core.Path.{◌≡◌}
use Prim.Native.Nat.{ℕ, ◌≤◌, ◌<◌}
use Rattle.patch.proofs.expand.next_live.Given as goal

abbrev pub invariant-loop-i : goal.invariant-loop-i
invariant-loop-i l = (l.from ≤ l.i) × (l.i ≤ length l.ms) × ((j : ℕ) → l.from ≤ j → j < l.i → bit_and (get_or l.ms j 0) l.mask ≡ 0)
