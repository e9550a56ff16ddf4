-- Twice the definitions that are not met, and one more at a node. The terms from k on are still to be walked.
use Rattle.std.proofs.Common.{◌≡◌, ℕ, ◌+◌, ◌≤◌, map, drop}
use Rattle.operand.specs.Numbers.{term_of}
use Rattle.legraph.specs.Walked.{walked, over, unmarked, rhs_in, visit as visitOf}
use Rattle.legraph.proofs.post_order.+enter_visit.Given as goal

abbrev pub decreases-enter : goal.decreases-enter
decreases-enter l = unmarked l.marks.now + unmarked l.marks.now + 1

abbrev pub decreases-visit : goal.decreases-visit
decreases-visit l = unmarked l.marks.now + unmarked l.marks.now

abbrev pub invariant-visit-loop-t : goal.invariant-visit-loop-t
invariant-visit-loop-t l = record {
  marks_bound : unmarked l.marks ≤ unmarked l.initial.marks;
  rest : (f : ℕ) → unmarked l.initial.marks ≤ f
      → over (visitOf f (rhs_in l.stores.old.now l.stores.new.now l.rhss) l.table) l.table (map term_of (drop l.t-index l.ts)) (walked l.marks l.order l.cur)
      ≡ over (visitOf f (rhs_in l.stores.old.now l.stores.new.now l.rhss) l.table) l.table (map term_of l.ts) (walked l.initial.marks l.initial.order l.initial.cur);
}
