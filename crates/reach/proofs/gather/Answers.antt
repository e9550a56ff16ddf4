-- Each destination is one of the wires. Assumes nothing.
use Rattle.commit_set.proofs.Members.{all_get}
use lib.ListN.{length}
use Prim.Native.Nat.{ℕ, ◌<◌}
use Rattle.reach.proofs.gather.Goals as goal

pub bounds-masks-w : goal.bounds-masks-w
bounds-masks-w c = all_get (λ (w : ℕ). w < length c.args.masks.now) c.args.dsts.now c.loop-i.i 0 c.requires.1 c.loop-i-test.true
