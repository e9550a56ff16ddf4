use Rattle.house_fill.specs.Layout.{numbers_from}
use Rattle.house_file.specs.Decoding.{operands_at}
use lib.Seq.{sets}
use lib.ListN.{length}
use Prim.Native.Nat.{◌+◌, ◌-◌, ◌*◌, ◌≤◌}
use mathlib.Core.Path.{◌≡◌}
use Rattle.house_fill.proofs.put_numbers.Given as goal

abbrev pub invariant-loop : goal.invariant-loop
invariant-loop l = (sets l.initial.store l.p (numbers_from l.t (operands_at l.s l.k l.at)) ≡ sets l.store l.q (numbers_from l.u (operands_at l.s (l.k - l.counter) l.a)))
    × ((l.u + 65536 * (l.k - l.counter) ≤ l.t + 65536 * l.k)
    × ((l.a + 400000 * (l.k - l.counter) ≤ l.at + 400000 * l.k) × ((l.q + (l.k - l.counter) ≡ l.p + l.k) × (length l.store ≡ length l.initial.store))))
