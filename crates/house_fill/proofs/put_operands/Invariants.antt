use Rattle.house_fill.specs.Layout.{operands_laid}
use Rattle.house_file.specs.Decoding.{operands_at, operands_terms}
use lib.Seq.{sets}
use lib.ListN.{length}
use Prim.Native.Nat.{◌+◌, ◌-◌, ◌*◌, ◌≤◌}
use mathlib.Core.Path.{◌≡◌}
use Rattle.house_fill.proofs.put_operands.Given as goal

abbrev pub invariant-loop : goal.invariant-loop
invariant-loop l = (sets l.initial.store l.p (operands_laid (operands_at l.s l.k l.at)) ≡ sets l.store l.q (operands_laid (operands_at l.s (l.k - l.counter) l.a)))
    × ((l.p + operands_terms l.s l.k l.at ≡ l.q + operands_terms l.s (l.k - l.counter) l.a)
    × ((l.a + 400000 * (l.k - l.counter) ≤ l.at + 400000 * l.k) × ((l.q + 65536 * (l.k - l.counter) ≤ l.p + 65536 * l.k) × (length l.store ≡ length l.initial.store))))
