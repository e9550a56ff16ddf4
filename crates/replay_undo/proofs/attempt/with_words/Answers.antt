-- As many words as wires. Assumes nothing.
use Rattle.replay_undo.proofs.attempt.with_words.Goals as goal

pub returns : goal.returns
returns c = record { words = _; answer = _; fills = rw (c.make.ensures, c.min-n.ensures) at c.fill_back.ensures; goes = c.with_values.ensures }
