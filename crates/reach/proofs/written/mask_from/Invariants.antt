use Rattle.std.specs.Iterator.Adapters.{rev_source}
use Rattle.std.specs.Slice.Iter.{iter_rest}
use Rattle.lower.specs.Lists.{All}
use Rattle.reach.specs.Steps.{held_in, alive_from, Able}
use lib.ListN.{length}
use mathlib.Core.Path.{◌≡◌}
use Rattle.reach.proofs.written.mask_from.Given as goal

abbrev pub invariant-loop-d : goal.invariant-loop-d
invariant-loop-d l = record {
  able : All (Able (held_in l.system l.decisions) (length l.initial.masks)) (iter_rest (rev_source l.d-iterator));
  left : alive_from (held_in l.system l.decisions) (iter_rest (rev_source l.d-iterator)) l.masks ≡ alive_from (held_in l.system l.decisions) l.order l.initial.masks;
}
