use Rattle.apply.specs.Applied.{is_stranded, keep_from}
use lib.Seq.{sets}
use lib.ListN.{length, take}
use mathlib.Core.Path.{◌≡◌}
use Rattle.apply.proofs.retain_stranded.Given as goal

abbrev pub invariant-loop-i : goal.invariant-loop-i
invariant-loop-i l = (l.dsts ≡ sets l.initial.dsts 0 (keep_from (is_stranded l.decisions l.reach) 0 (take l.i l.initial.dsts))) × (l.rhss ≡ sets l.initial.rhss 0 (keep_from (is_stranded l.decisions l.reach) 0 (take l.i l.initial.rhss))) × (l.at ≡ length (keep_from (is_stranded l.decisions l.reach) 0 (take l.i l.initial.dsts))) × (l.at ≡ length (keep_from (is_stranded l.decisions l.reach) 0 (take l.i l.initial.rhss)))
