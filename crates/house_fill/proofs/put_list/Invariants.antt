use Rattle.house_fill.specs.Layout.{list_laid}
use Rattle.house_file.specs.Decoding.{entries_at}
use lib.Seq.{sets}
use lib.ListN.{length}
use Prim.Native.Nat.{◌+◌, ◌-◌, ◌*◌, ◌≤◌}
use mathlib.Core.Path.{◌≡◌}
use Rattle.house_fill.proofs.put_list.Given as goal

abbrev pub invariant-loop : goal.invariant-loop
invariant-loop l = (sets l.initial.store 0 (list_laid l.kind 0 (entries_at l.s l.n 5)) ≡ sets l.store l.q (list_laid l.kind l.t (entries_at l.s (l.n - l.counter) l.a)))
    × ((l.t + 393216 * (l.n - l.counter) ≤ 393216 * l.n)
    × ((l.a + 70000 * (l.n - l.counter) ≤ 5 + 70000 * l.n) × ((l.q + 6 * (l.n - l.counter) ≤ 6 * l.n) × (length l.store ≡ length l.initial.store))))
