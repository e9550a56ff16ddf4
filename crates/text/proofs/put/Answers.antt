-- One byte after the other. Assumes nothing.
use Rattle.text.proofs.Putting.{puts_none, bytes_next, puts_all}
use mathlib.Core.Path.{◌≡◌}
use Prim.Native.Nat.{◌+◌}
use lib.ListN.{length}
use native.Mathlib.Omega.{arith}
use Rattle.text.proofs.put.Goals as goal

pub loop-i-init : goal.loop-i-init
loop-i-init c = puts_none _ _ _ (omega arith)

pub loop-i-preserved : goal.loop-i-preserved
loop-i-preserved c = bytes_next _ _ _ _ (omega arith) c.loop-i.invariant c.put.ensures (omega arith)

pub returns : goal.returns
returns c =
    let e : c.args.at + length c.args.text.now ≡ c.args.at + c.loop-i.i = omega arith in
    rw e (puts_all _ _ (omega arith) c.loop-i-test.false c.loop-i.invariant)
