-- One destination after the other. Assumes nothing.
use Rattle.replay_fuse.specs.Places.{same_of}
use Rattle.replay_fuse.proofs.Turns.{turns-none, named_next}
use Rattle.std.proofs.Common.{◌≡◌, ◌≤◌, ℕ, arith, rules}
use Rattle.replay_fuse.proofs.places.named.Goals as goal

pub loop-i-init : goal.loop-i-init
loop-i-init c = (omega arith, turns-none ℕ _ _)

pub loop-i-preserved : goal.loop-i-preserved
loop-i-preserved c =
    let e : c.from-c.result ≡ same_of c.byte-flag.result 1 = search rules in
    let h : c.from-c.result ≤ 1 = search rules in
    (omega (arith, h), named_next c.args.flags.now c.args.dsts.now c.args.from c.loop-i.i _ _ _ _ c.destination.ensures c.byte-flag.ensures.0 c.loop-i.invariant.1 e)
