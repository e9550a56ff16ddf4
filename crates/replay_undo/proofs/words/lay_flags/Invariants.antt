use Rattle.replay_undo.specs.Words.{laid_flags}
use Rattle.std.proofs.Common.{◌≡◌}
use Rattle.replay_undo.proofs.words.lay_flags.Given as goal

abbrev pub invariant-loop-i : goal.invariant-loop-i
invariant-loop-i l = (l.to ≡ laid_flags l.dsts l.flags l.i l.initial.to)
