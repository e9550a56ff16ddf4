use Rattle.house_file.specs.Decoding.{terms_at}
use Rattle.operand.specs.Numbers.{term_number}
use lib.Seq.{sets}
use lib.ListN.{length}
use Prim.Native.Nat.{◌+◌, ◌-◌, ◌*◌}
use mathlib.Core.List.{map}
use mathlib.Core.Path.{◌≡◌}
use Rattle.house_fill.proofs.put_terms.Given as goal

abbrev pub invariant-loop : goal.invariant-loop
invariant-loop l = (sets l.initial.store l.p (map term_number (terms_at l.s l.n l.at)) ≡ sets l.store l.q (map term_number (terms_at l.s (l.n - l.counter) l.a)))
    × ((l.a + 6 * (l.n - l.counter) ≡ l.at + 6 * l.n) × ((l.q + (l.n - l.counter) ≡ l.p + l.n) × (length l.store ≡ length l.initial.store)))
