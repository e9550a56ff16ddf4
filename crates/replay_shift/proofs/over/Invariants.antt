use Rattle.std.proofs.Common.{◌≡◌, ℕ, ◌<◌}
use Rattle.replay_shift.specs.Tallies.{over}
use Rattle.replay_shift.proofs.over.Given as goal

abbrev pub invariant-loop-k : goal.invariant-loop-k
invariant-loop-k g l = (f : ℕ → _ → _) → ((a : _) (k : ℕ) (r : _) → k < l.n → goal.F-post g l.step a k r → r ≡ f k a) → l.sum ≡ over f l.k l.fn.first
