-- Each turn writes the mask and the entry of one term more. Assumes nothing.
use Rattle.patch.proofs.Looking.{entries_none, entries_more}
use Rattle.patch.specs.Spelling.{Entries}
use Rattle.commit_set.proofs.Members.{all_get}
use Rattle.operand.specs.Numbers.{term_of}
use Rattle.shift.specs.Shifts.{valid_number}
use lib.ListN.{length}
use native.Mathlib.Omega.{arith}
use mathlib.Core.Bool.{true}
use mathlib.Core.List.{List}
use Prim.Native.Nat.{ℕ, ◌+◌}
use mathlib.Core.Path.{◌≡◌, sym, subst}
use Rattle.patch.proofs.expand.look_terms.Goals as goal

pub overflow_add-to : goal.overflow_add-to
overflow_add-to c = omega (arith, c.requires.room.1)

pub loop-i-init : goal.loop-i-init
loop-i-init c = (omega arith, entries_none c.args.table.now c.args.decisions.now c.args.alive.now c.args.ts.now c.args.at c.requires.nodes c.requires.room.0 (length c.args.ts.now))

pub overflow_add-at : goal.overflow_add-at
overflow_add-at c = omega (arith, c.requires.room.1, c.loop-i-test.true)

pub overflow_add-to-in-loop-i : goal.overflow_add-to-in-loop-i
overflow_add-to-in-loop-i c = omega (arith, c.requires.room.1, c.loop-i-test.true)

pub lay-requires : goal.lay-requires
lay-requires c =
    record { t_value = all_get (λ (t : ℕ). valid_number (term_of t).inner ≡ true) c.args.ts.now c.loop-i.i 0 c.requires.shifts_there c.loop-i-test.true; at_in_bounds = (omega (arith, c.requires.room.1, c.loop-i-test.true, c.loop-i.invariant.1.long), omega (arith, c.requires.room.1, c.loop-i-test.true, c.loop-i.invariant.1.long)) }

pub loop-i-preserved : goal.loop-i-preserved
loop-i-preserved c = (
  omega (arith, c.loop-i-test.true),
  subst (λ (x : List ℕ). Entries c.args.table.now c.args.decisions.now c.args.alive.now x c.args.ts.now c.args.at (length c.args.ts.now) (c.loop-i.i + 1)) (sym c.lay.ensures)
      (entries_more c.args.table.now c.args.decisions.now c.args.alive.now c.args.ts.now c.args.at c.requires.nodes c.requires.room.0 c.loop-i.alive (length c.args.ts.now) c.loop-i.i c.loop-i.invariant.1 c.loop-i-test.true (omega (arith, c.requires.room.1, c.loop-i.invariant.1.long))),
)

pub shape_of-alive : goal.shape_of-alive
shape_of-alive c = c.loop-i.invariant.1.long

pub returns : goal.returns
returns c = let e : c.loop-i.i ≡ length c.args.ts.now = omega (arith, c.loop-i.invariant.0, c.loop-i-test.false) in
    subst (Entries c.args.table.now c.args.decisions.now c.args.alive.now c.loop-i.alive c.args.ts.now c.args.at (length c.args.ts.now)) e c.loop-i.invariant.1
