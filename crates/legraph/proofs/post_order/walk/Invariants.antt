use Rattle.std.proofs.Common.{◌≡◌, ◌-◌, ◌≤◌, length}
use Rattle.legraph.specs.Walked.{walked, walk_from, begun, unmarked, rhs_in}
use Rattle.legraph.proofs.post_order.walk.Given as goal

abbrev pub invariant-loop-k : goal.invariant-loop-k
invariant-loop-k l = (unmarked l.marks ≤ unmarked l.initial.marks) × (walk_from (length l.initial.marks) (rhs_in l.stores.old.now l.stores.new.now l.rhss) l.table l.k (l.count - l.k) (walked l.marks l.order l.cur) ≡ walk_from (length l.initial.marks) (rhs_in l.stores.old.now l.stores.new.now l.rhss) l.table 0 l.count (begun l.initial.marks l.initial.order))
