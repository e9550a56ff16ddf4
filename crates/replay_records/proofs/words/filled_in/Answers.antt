-- Made, filled back, evaluated, and counted. Assumes nothing.
use Rattle.replay_records.proofs.Calls.{was_filled}
use Rattle.replay_records.proofs.words.filled_in.Goals as goal

pub returns : goal.returns
returns c = was_filled _ _ _ _ _ _ _ _ _ _ _ _ c.make.ensures c.fill_back_records-filled.ensures c.evaluate_records-evaluated.ensures c.counted.ensures
