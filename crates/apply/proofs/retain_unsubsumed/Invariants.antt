use Rattle.apply.specs.Applied.{untouched, kept_rows}
use lib.Seq.{sets}
use lib.ListN.{length}
use mathlib.Core.Path.{◌≡◌}
use Rattle.apply.proofs.retain_unsubsumed.Given as goal

abbrev pub invariant-loop-i : goal.invariant-loop-i
invariant-loop-i l = (l.hs ≡ sets l.initial.hs 0 (kept_rows (untouched l.stores.old.now l.stores.new.now l.table) l.k l.i l.initial.hs)) × (l.at ≡ length (kept_rows (untouched l.stores.old.now l.stores.new.now l.table) l.k l.i l.initial.hs))
