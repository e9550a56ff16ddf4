-- As many flags as words. Assumes nothing.
use Rattle.replay_undo.proofs.attempt.with_flags.Goals as goal

pub returns : goal.returns
returns c = record { flags = _; fused = _; filled = _; fuses = rw c.min-n.ensures at c.patched.ensures; undoes = c.undo.ensures; evaluates = c.evaluations.ensures }
