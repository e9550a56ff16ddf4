-- The edges one by one, as the definition has them. Assumes nothing.
use Rattle.std.proofs.Common.{rules}
use Rattle.std.proofs.lemmas.Iterator.{YieldsList-from_slice}
use Rattle.std.proofs.lemmas.Iterator.Consumers.{fold_from_yields_List}
use Rattle.replay_shift.specs.Replay.{apply_word, apply_edges}
use Rattle.replay_shift.specs.Tallies.{over}
use Rattle.replay_shift.proofs.apply_edges.Goals as goal

pub returns : goal.returns
unfolding apply_edges over
returns c = fold_from_yields_List _ (λ h w. apply_word w h) 0 c.fold.result c.fold.ensures.ran (YieldsList-from_slice _ c.iter.ensures.rest) (λ a x b q k. search rules)
