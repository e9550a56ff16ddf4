use mathlib.Core.Path.{◌≡◌}
use mathlib.Core.List.{◌++◌}
use lib.ListN.{length, drop}
use Rattle.std.specs.Iterator.Adapters.{rev_source}
use Rattle.std.specs.Slice.Iter.{iter_rest}
use Rattle.fill_back.specs.Steps.{held_in, fill_from}
use Rattle.fill_back.proofs.filling.fill_from.Given as goal

abbrev pub invariant-loop-d : goal.invariant-loop-d
invariant-loop-d l = record {
  rest : l.order ≡ iter_rest (rev_source l.d-iterator) ++ drop (length (iter_rest (rev_source l.d-iterator))) l.order;
  filled : l.assignment ≡ fill_from (held_in l.system l.flags) (drop (length (iter_rest (rev_source l.d-iterator))) l.order) l.initial.assignment;
}
