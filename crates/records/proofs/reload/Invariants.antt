-- The first k records are made. Assumes nothing.
use Rattle.std.proofs.Common.{◌≡◌}
use Rattle.records.specs.Records.{reloaded}
use Rattle.records.proofs.reload.Given as goal

abbrev pub invariant-loop-k : goal.invariant-loop-k
invariant-loop-k l = l.defs ≡ reloaded l.fn.defs l.dsts l.rhss l.k
