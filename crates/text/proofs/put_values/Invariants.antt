use Rattle.text.specs.Text.{PutsAt, values_text}
use lib.ListN.{take}
use Prim.Native.Nat.{◌+◌, ◌*◌, ◌≤◌}
use Rattle.text.proofs.put_values.Given as goal

abbrev pub invariant-loop-v : goal.invariant-loop-v
invariant-loop-v l = PutsAt (values_text (take l.v-index l.vs)) l.initial.out l.at l.p l.out × (l.p ≤ l.at + 21 * l.v-index)
