use Rattle.std.proofs.Common.{◌≡◌, length}
use Rattle.replay_lower.specs.Replay.{state_of, after}
use Rattle.replay_lower.proofs.replay.Given as goal

abbrev pub invariant-loop-i : goal.invariant-loop-i
invariant-loop-i l = (length l.memory ≡ 8192) × (length l.dsts ≡ 2048) × (state_of l.memory l.dsts l.t ≡ after l.input l.i)
