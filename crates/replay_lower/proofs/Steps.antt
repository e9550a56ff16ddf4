-- One pair more. Assumes nothing.
use Rattle.std.proofs.Common.{◌≡◌, ℕ, ◌+◌, ◌*◌, List, sym, ap, ◌∙◌, add-one}
use Rattle.replay_lower.specs.Replay.{State, step_of, after, word_at}

pub next : (b : List ℕ) (i w v : ℕ) (s r : State) → s ≡ after b i → w ≡ word_at b (2 * i) → v ≡ word_at b (2 * i + 1) → r ≡ step_of s w v → r ≡ after b (i + 1)
next b i w v s r p q t e =
    e ∙ ap (λ (x : State). step_of x w v) p ∙ ap (λ (x : ℕ). step_of (after b i) x v) q ∙ ap (λ (x : ℕ). step_of (after b i) (word_at b (2 * i)) x) t
    ∙ ap (after b) (sym (add-one i))
