use Rattle.apply.specs.Applied.{flags_from}
use lib.Seq.{sets}
use Prim.Native.Nat.{◌-◌}
use mathlib.Core.Path.{◌≡◌}
use Rattle.apply.proofs.write_flags.Given as goal

abbrev pub invariant-loop-w : goal.invariant-loop-w
invariant-loop-w l = sets l.flags l.w (flags_from l.table l.decisions l.w (l.wires - l.w)) ≡ sets l.initial.flags 0 (flags_from l.table l.decisions 0 l.wires)
