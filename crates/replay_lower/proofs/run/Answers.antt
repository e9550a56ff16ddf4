-- The stores, the sizes and the limit as they stand. Assumes nothing.
use Rattle.std.proofs.Common.{◌∙◌}
use Rattle.replay_lower.specs.Replay.{checked_at, stores_at}
use Rattle.replay_lower.proofs.run.Goals as goal

pub returns-in-Ok : goal.returns-in-Ok
unfolding checked_at stores_at
returns-in-Ok c = rw (← c.store.ensures, ← c.store-2.ensures, ← c.store-3.ensures, ← c.store-4.ensures, ← c.store-5.ensures, ← c.store-6.ensures, ← c.store-7.ensures, ← c.store-8.ensures, ← c.sizes.ensures, ← c.get.ensures) c.in-Ok.ensures

pub returns-in-Err : goal.returns-in-Err
unfolding checked_at stores_at
returns-in-Err c = rw (← c.store.ensures, ← c.store-2.ensures, ← c.store-3.ensures, ← c.store-4.ensures, ← c.store-5.ensures, ← c.store-6.ensures, ← c.store-7.ensures, ← c.store-8.ensures, ← c.sizes.ensures, ← c.get.ensures) (c.number.ensures ∙ c.in-Err.ensures)
