use lib.Seq.{sets}
use lib.ListN.{take}
use mathlib.Core.Path.{◌≡◌}
use Rattle.apply.proofs.extend.Given as goal

abbrev pub invariant-loop-i : goal.invariant-loop-i
invariant-loop-i l = l.to ≡ sets l.initial.to l.at (take l.i l.from)
