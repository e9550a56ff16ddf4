-- The first k numbers of each kind are there. Assumes nothing.
use Rattle.std.proofs.Common.{◌≡◌, replicate}
use Rattle.lower.specs.Accepted.{MAX_DEFINITIONS}
use Rattle.records.specs.Records.{dsts_of, rhss_of, unloaded}
use Rattle.records.proofs.Numbers.unload.Given as goal

abbrev pub invariant-loop-k : goal.invariant-loop-k
invariant-loop-k l = record {
  dsts_are : l.self.dsts ≡ unloaded (replicate MAX_DEFINITIONS 0) (dsts_of l.defs) l.k;
  rhss_are : l.self.rhss ≡ unloaded (replicate MAX_DEFINITIONS 0) (rhss_of l.defs) l.k;
}
