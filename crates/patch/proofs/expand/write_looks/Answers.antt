-- Each turn lays down the masks and the entries of one definition more, behind those that are there. Assumes nothing.
use Rattle.patch.proofs.Looking.{Filled, filled_none, filled_step, filled_looks, room_step}
use native.Mathlib.Omega.{arith}
use mathlib.Core.Path.{◌≡◌, subst}
use Rattle.patch.proofs.expand.write_looks.Goals as goal

pub loop-d-init : goal.loop-d-init
loop-d-init c = (omega arith, c.requires.room.0, filled_none c.args.stores.now.old.now c.args.stores.now.new.now c.args.rhss.now c.args.table.now c.args.decisions.now c.args.alive.now)

pub bounds-rhss-d : goal.bounds-rhss-d
bounds-rhss-d c = omega (arith, c.requires.lookable.right_sides, c.loop-d-test.true)

pub look_operand-m-requires : goal.look_operand-m-requires
look_operand-m-requires c =
    record { stands = c.requires.lookable.stand c.loop-d.d c.loop-d-test.true; shifts_there = c.requires.lookable.shifts_there c.loop-d.d c.loop-d-test.true; room = (omega (arith, c.loop-d.invariant.2.past), omega (arith, c.loop-d.invariant.1, c.loop-d.invariant.2.as_long, room_step c.args.rhss.now c.args.n c.loop-d.d c.loop-d-test.true c.requires.lookable.right_sides)); nodes = c.requires.lookable.nodes }

pub overflow_mul-alive : goal.overflow_mul-alive
overflow_mul-alive c =
    omega (arith, c.look_operand-m.ensures.0, c.loop-d.invariant.1, c.requires.room.1, room_step c.args.rhss.now c.args.n c.loop-d.d c.loop-d-test.true c.requires.lookable.right_sides)

pub overflow_add-alive : goal.overflow_add-alive
overflow_add-alive c =
    omega (arith, c.look_operand-m.ensures.0, c.loop-d.invariant.1, c.requires.room.1, room_step c.args.rhss.now c.args.n c.loop-d.d c.loop-d-test.true c.requires.lookable.right_sides)

pub bounds-alive-d : goal.bounds-alive-d
bounds-alive-d c =
    omega (arith, c.look_operand-m.ensures.1.long, c.loop-d.invariant.2.as_long, c.loop-d.invariant.2.past, c.loop-d.invariant.1, c.requires.lookable.few, c.loop-d-test.true)

pub overflow_mul-at : goal.overflow_mul-at
overflow_mul-at c =
    omega (arith, c.look_operand-m.ensures.0, c.loop-d.invariant.1, c.requires.room.1, room_step c.args.rhss.now c.args.n c.loop-d.d c.loop-d-test.true c.requires.lookable.right_sides)

pub overflow_add-at-in-loop-d : goal.overflow_add-at-in-loop-d
overflow_add-at-in-loop-d c =
    omega (arith, c.look_operand-m.ensures.0, c.loop-d.invariant.1, c.requires.room.1, room_step c.args.rhss.now c.args.n c.loop-d.d c.loop-d-test.true c.requires.lookable.right_sides)

pub loop-d-preserved : goal.loop-d-preserved
loop-d-preserved c =
    (omega (arith, c.loop-d-test.true), omega (arith, c.look_operand-m.ensures.0, c.loop-d.invariant.1, room_step c.args.rhss.now c.args.n c.loop-d.d c.loop-d-test.true c.requires.lookable.right_sides), filled_step c.args.stores.now.old.now c.args.stores.now.new.now c.args.rhss.now c.args.table.now c.args.decisions.now c.args.alive.now c.requires.lookable.nodes c.loop-d.alive _ c.loop-d.at c.loop-d.d c.look_operand-m.result (omega (arith, c.loop-d-test.true, c.requires.lookable.few)) (omega (arith, c.loop-d.invariant.2.as_long, c.loop-d.invariant.2.past, c.loop-d.invariant.1)) (c.requires.lookable.stand c.loop-d.d c.loop-d-test.true) c.loop-d.invariant.2 c.look_operand-m.ensures.1 c.look_operand-m.ensures.0)

pub shape_of-alive : goal.shape_of-alive
shape_of-alive c = c.loop-d.invariant.2.as_long

pub returns : goal.returns
returns c = let e : c.loop-d.d ≡ c.args.n = omega (arith, c.loop-d.invariant.0, c.loop-d-test.false) in
    let g = subst (Filled c.args.stores.now.old.now c.args.stores.now.new.now c.args.rhss.now c.args.table.now c.args.decisions.now c.args.alive.now c.loop-d.alive c.loop-d.at) e c.loop-d.invariant.2 in
    record { masks_kept = c.loop-d.invariant.2.front; looks = filled_looks c.args.stores.now.old.now c.args.stores.now.new.now c.args.rhss.now c.args.table.now c.args.decisions.now c.args.alive.now c.requires.lookable.nodes c.loop-d.alive c.loop-d.at c.args.n g c.requires.lookable.few (omega (arith, c.loop-d.invariant.2.as_long, c.loop-d.invariant.1)) (omega (arith, c.loop-d.invariant.2.as_long, c.requires.room.1)) }
