-- One vector after the other. Assumes nothing.
use Rattle.std.proofs.Common.{◌≡◌, sym, subst, rules}
use Rattle.replay_undo.specs.Tallies.{nothing_counted}
use Rattle.replay_undo.specs.Replay.{Replayed, begun, next}
use Rattle.replay_undo.proofs.replay.Goals as goal

pub loop-at-init : goal.loop-at-init
loop-at-init c =
    let e : c.default-t.result ≡ nothing_counted = search rules in
    subst (Replayed c.args.input.now 4) (sym e) begun

pub loop-at-preserved : goal.loop-at-preserved
loop-at-preserved c = next c.loop-at-test.true c.vector_at-v.ensures.value c.loop-at.invariant (rw c.part.ensures at c.replay_vector.ensures)
