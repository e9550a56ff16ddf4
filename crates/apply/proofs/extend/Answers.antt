-- The numbers written so far are the first ones of the list. Assumes nothing.
use Rattle.apply.proofs.Closing.{copy_step}
use lib.ListN.{get_or, set}
use mathlib.Core.List.{List}
use Prim.Native.Nat.{ℕ, ◌+◌}
use mathlib.Core.Path.{ap, ◌∙◌}
use Rattle.apply.proofs.extend.Goals as goal

pub loop-i-preserved : goal.loop-i-preserved
loop-i-preserved c =
    ap (λ (t : List ℕ). set t (c.args.at + c.loop-i.i) (get_or c.args.from.now c.loop-i.i 0)) c.loop-i.invariant
    ∙ copy_step c.args.from.now c.loop-i.i c.loop-i-test.true c.args.to.now c.args.at
