use Rattle.house_file.specs.Format.{terms_bytes}
use Rattle.operand.specs.Numbers.{term_of}
use mathlib.Core.List.{map}
use mathlib.Core.Path.{◌≡◌}
use Prim.Native.Nat.{◌+◌, ◌*◌}
use lib.Seq.{sets}
use lib.ListN.{drop}
use Rattle.house_write.proofs.emit.terms.Given as goal

abbrev pub invariant-loop-t : goal.invariant-loop-t
invariant-loop-t l = (sets l.initial.out l.p (terms_bytes (map term_of l.ts)) ≡ sets l.out l.q (terms_bytes (map term_of (drop l.t-index l.ts)))) × (l.q ≡ l.p + 6 * l.t-index)
