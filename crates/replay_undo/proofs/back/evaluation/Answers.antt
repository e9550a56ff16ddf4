-- By what the evaluator answers and leaves. Assumes nothing.
use Rattle.replay_undo.proofs.back.evaluation.Goals as goal

pub returns : goal.returns
returns c = record { out = _; answer = _; is_right = _; evaluates = rw c.min-n.ensures at c.evaluate-answer.ensures; right_is = c.is_as_told.ensures; counted = c.count_answer.ensures }
