use Rattle.std.proofs.Common.{◌≡◌, take}
use lib.Seq.{sets}
use Rattle.evaluate.specs.Steps.{values_at}
use Rattle.evaluate.proofs.put_values.Given as goal

abbrev pub invariant-loop-i : goal.invariant-loop-i
invariant-loop-i l = l.out ≡ sets l.initial.out l.at (values_at l.stores.old.now l.stores.new.now l.words (take l.i l.hs))
