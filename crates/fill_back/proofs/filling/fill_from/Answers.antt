-- The words with the definitions from the last one on are the whole. Assumes nothing.
use Rattle.fill_back.specs.Steps.{held_in}
use Rattle.fill_back.proofs.Storing.{rest_begun, rest_done, rest_turn, fill_turn, able_turn}
use Rattle.std.specs.Iterator.Adapters.{rev_source}
use Rattle.std.specs.Slice.Iter.{iter_rest}
use mathlib.Core.Path.{◌≡◌, ap}
use Rattle.fill_back.proofs.filling.fill_from.Goals as goal

pub loop-d-init : goal.loop-d-init
loop-d-init c =
    let e : iter_rest (rev_source c.into_iter-d-iterator.result) ≡ c.args.order.now = cc (ap rev_source c.into_iter-d-iterator.ensures.into_iter_gives, ap iter_rest c.rev-d-items.ensures.source) in
    let b = rest_begun (held_in c.args.system.now c.args.flags.now) c.args.assignment.now c.args.order.now _ e in
    record { rest = b.0; filled = b.1 }

pub fill_one-requires : goal.fill_one-requires
fill_one-requires c = able_turn (held_in c.args.system.now c.args.flags.now) c.args.assignment.now c.args.order.now _ _ _ c.loop-d.invariant.rest c.in-Some.ensures.steps c.requires c.loop-d.auto.assignment

pub loop-d-preserved : goal.loop-d-preserved
loop-d-preserved c =
    let h = held_in c.args.system.now c.args.flags.now in record {
      rest = rest_turn h c.args.assignment.now c.args.order.now _ _ _ c.loop-d.invariant.rest c.in-Some.ensures.steps;
      filled = fill_turn h c.args.assignment.now c.args.order.now _ _ _ c.loop-d.invariant.rest c.in-Some.ensures.steps _ _ c.loop-d.invariant.filled c.fill_one.ensures;
    }

pub returns : goal.returns
returns c = rest_done (held_in c.args.system.now c.args.flags.now) c.args.assignment.now c.args.order.now _ _ c.in-None.ensures.steps.0 c.loop-d.invariant.filled
