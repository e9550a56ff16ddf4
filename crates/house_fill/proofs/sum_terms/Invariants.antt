use Rattle.house_file.specs.Decoding.{operands_terms}
use Prim.Native.Nat.{◌+◌, ◌-◌, ◌*◌, ◌≤◌}
use mathlib.Core.Path.{◌≡◌}
use Rattle.house_fill.proofs.sum_terms.Given as goal

abbrev pub invariant-loop : goal.invariant-loop
invariant-loop l = (operands_terms l.s l.k l.at ≡ l.sum + operands_terms l.s (l.k - l.counter) l.a)
    × ((l.a + 400000 * (l.k - l.counter) ≤ l.at + 400000 * l.k) × (l.sum + 65536 * (l.k - l.counter) ≤ 65536 * l.k))
