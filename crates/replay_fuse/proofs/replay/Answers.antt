-- One vector after the other. Assumes nothing.
use Rattle.std.proofs.Common.{◌≡◌, sym, subst, arith, rules}
use Rattle.replay_fuse.specs.Tallies.{nothing_counted}
use Rattle.replay_fuse.specs.Replay.{Replayed, begun, next}
use Rattle.replay_fuse.proofs.replay.Goals as goal

pub loop-at-init : goal.loop-at-init
loop-at-init c =
    let e : c.default-t.result ≡ nothing_counted = search rules in
    subst (Replayed c.args.input.now 4) (sym e) begun

pub loop-at-smaller : goal.loop-at-smaller
loop-at-smaller c = omega (arith, c.vector_at-v.ensures.at_lt_end)

pub loop-at-preserved : goal.loop-at-preserved
loop-at-preserved c = next c.loop-at-test.true c.vector_at-v.ensures.value c.loop-at.invariant c.replay_vector-t.ensures

pub returns : goal.returns
returns c = record { end = c.loop-at.at; past = omega arith; replayed = c.loop-at.invariant }
