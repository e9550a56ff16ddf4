-- What is left of the vectors, from where the walk stands, comes to what all of them do. Assumes nothing.
use Rattle.std.proofs.Common.{ℕ, ◌+◌, ◌-◌, sym, ap, ◌∙◌, arith}
use Rattle.replay_house.proofs.Passes.{vectors_stop, vectors_go, vectors_end}
use Rattle.replay_house.specs.Replay.{number_at, state_of, vectors_of, vector_of}
use Rattle.replay_house.proofs.vectors.Goals as goal

pub returns-then-input-at : goal.returns-then-input-at
returns-then-input-at c =
    rw c.count.ensures (sym (c.loop.invariant.0 ∙ vectors_stop c.args.input.now c.loop.at (state_of c.loop.one c.loop.two c.loop.t) (number_at c.args.input.now 0) c.loop.counter (omega (arith, c.number-end.ensures.0)) c.if-input-at.true))

pub loop-preserved : goal.loop-preserved
loop-preserved c =
    let s = state_of c.loop.one c.loop.two c.loop.t in
    let left = number_at c.args.input.now 0 - (c.loop.counter + 1) in (
      c.loop.invariant.0 ∙ vectors_go c.args.input.now c.loop.at s (number_at c.args.input.now 0) c.loop.counter (omega (arith, c.number-end.ensures.0)) c.if-input-at.false
          ∙ ap (λ (k : ℕ). vectors_of c.args.input.now left (c.loop.at + 4 + k + 36) (vector_of c.args.input.now (c.loop.at + 4) k s)) (sym c.number-n.ensures.0)
          ∙ ap (vectors_of c.args.input.now left (c.loop.at + 4 + c.number-n.result + 36)) (sym c.vector-t.ensures),
      omega (arith, c, c.vector-t.auto),
    )

pub returns : goal.returns
returns c =
    sym (c.loop.invariant.0 ∙ vectors_end c.args.input.now c.loop.at (state_of c.loop.one c.loop.two c.loop.t) _ (omega (arith, c.number-end.ensures.0)))
