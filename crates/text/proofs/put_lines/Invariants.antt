use Rattle.text.specs.Committed.{committed_from}
use Rattle.text.specs.Text.{PutsAt, lines_text}
use lib.ListN.{take}
use Prim.Native.Nat.{◌*◌, ◌≤◌}
use Rattle.text.proofs.put_lines.Given as goal

abbrev pub invariant-loop-i : goal.invariant-loop-i
invariant-loop-i l = PutsAt (lines_text (committed_from 0 (take l.i l.flags))) l.initial.out 0 l.p l.out × (l.p ≤ 21 * l.i)
