-- Each list after the one before it. Assumes nothing.
use Rattle.std.proofs.Common.{arith, ap, ◌∙◌, length, length-take-le}
use Rattle.lower.specs.Stores.{row_handles}
use Rattle.lower.proofs.Checks.{memory_places}
use Rattle.evaluate.proofs.Answering.{all_ready}
use Rattle.evaluate.proofs.Storing.{lists_stored}
use Rattle.evaluate.proofs.put_all.Goals as goal

pub and_operands-requires : goal.and_operands-requires
and_operands-requires c = memory_places _ _ _ c.requires.memory_sound

pub imul_operands-requires : goal.imul_operands-requires
imul_operands-requires c = memory_places _ _ _ c.requires.memory_sound

pub bmul_operands-requires : goal.bmul_operands-requires
bmul_operands-requires c = memory_places _ _ _ c.requires.memory_sound

pub zero_operands-requires : goal.zero_operands-requires
zero_operands-requires c = memory_places _ _ _ c.requires.memory_sound

pub right_sides-requires : goal.right_sides-requires
right_sides-requires c = memory_places _ _ _ c.requires.memory_sound

pub put_values-at-requires : goal.put_values-at-requires
put_values-at-requires c = let y = all_ready _ _ c.requires.memory_sound in record { room = omega (arith, c.requires.room, ap length c.and_operands.ensures ∙ length-take-le _ _ y.ands_in); ready = rw c.and_operands.ensures y.ands_ready }

pub put_values-at-requires-2 : goal.put_values-at-requires-2
put_values-at-requires-2 c = let y = all_ready _ _ c.requires.memory_sound in record { room = omega (arith, c.requires.room, ap length c.imul_operands.ensures ∙ length-take-le _ _ y.imuls_in, c.put_values-at.ensures.place_after, ap length c.and_operands.ensures ∙ length-take-le _ _ y.ands_in, c.put_values-at.auto.out); ready = rw c.imul_operands.ensures y.imuls_ready }

pub put_values-at-requires-3 : goal.put_values-at-requires-3
put_values-at-requires-3 c = let y = all_ready _ _ c.requires.memory_sound in record { room = omega (arith, c.requires.room, ap length c.bmul_operands.ensures ∙ length-take-le _ _ y.bmuls_in, c.put_values-at.ensures.place_after, ap length c.and_operands.ensures ∙ length-take-le _ _ y.ands_in, c.put_values-at-2.ensures.place_after, ap length c.imul_operands.ensures ∙ length-take-le _ _ y.imuls_in, c.put_values-at.auto.out, c.put_values-at-2.auto.out); ready = rw c.bmul_operands.ensures y.bmuls_ready }

pub put_values-at-requires-4 : goal.put_values-at-requires-4
put_values-at-requires-4 c = let y = all_ready _ _ c.requires.memory_sound in record { room = omega (arith, c.requires.room, ap length c.zero_operands.ensures ∙ length-take-le _ _ y.zeros_in, c.put_values-at.ensures.place_after, ap length c.and_operands.ensures ∙ length-take-le _ _ y.ands_in, c.put_values-at-2.ensures.place_after, ap length c.imul_operands.ensures ∙ length-take-le _ _ y.imuls_in, c.put_values-at-3.ensures.place_after, ap length c.bmul_operands.ensures ∙ length-take-le _ _ y.bmuls_in, c.put_values-at.auto.out, c.put_values-at-2.auto.out, c.put_values-at-3.auto.out); ready = rw c.zero_operands.ensures y.zeros_ready }

pub put_values-requires : goal.put_values-requires
put_values-requires c = let y = all_ready _ _ c.requires.memory_sound in record { room = omega (arith, c.requires.room, ap length c.right_sides.ensures ∙ length-take-le _ _ y.rhss_in, c.put_values-at.ensures.place_after, ap length c.and_operands.ensures ∙ length-take-le _ _ y.ands_in, c.put_values-at-2.ensures.place_after, ap length c.imul_operands.ensures ∙ length-take-le _ _ y.imuls_in, c.put_values-at-3.ensures.place_after, ap length c.bmul_operands.ensures ∙ length-take-le _ _ y.bmuls_in, c.put_values-at-4.ensures.place_after, ap length c.zero_operands.ensures ∙ length-take-le _ _ y.zeros_in, c.put_values-at.auto.out, c.put_values-at-2.auto.out, c.put_values-at-3.auto.out, c.put_values-at-4.auto.out); ready = rw c.right_sides.ensures y.rhss_ready }

pub returns : goal.returns
unfolding row_handles
returns c = let y = all_ready _ _ c.requires.memory_sound in record {
  counted = omega (arith, c.put_values-at.ensures.place_after, ap length c.and_operands.ensures ∙ length-take-le _ _ y.ands_in, c.put_values-at-2.ensures.place_after, ap length c.imul_operands.ensures ∙ length-take-le _ _ y.imuls_in, c.put_values-at-3.ensures.place_after, ap length c.bmul_operands.ensures ∙ length-take-le _ _ y.bmuls_in, c.put_values-at-4.ensures.place_after, ap length c.zero_operands.ensures ∙ length-take-le _ _ y.zeros_in, c.put_values.ensures.place_after, ap length c.right_sides.ensures ∙ length-take-le _ _ y.rhss_in);
  values_put = rw (← c.and_operands.ensures, ← c.imul_operands.ensures, ← c.bmul_operands.ensures, ← c.zero_operands.ensures, ← c.right_sides.ensures)
      (lists_stored _ _ c.args.words.now _ _ _ _ _ c.args.out.now _ _ _ _ _ _ _ _ _ c.put_values-at.ensures.place_after c.put_values-at-2.ensures.place_after c.put_values-at-3.ensures.place_after c.put_values-at-4.ensures.place_after
      c.put_values-at.ensures.values_put c.put_values-at-2.ensures.values_put c.put_values-at-3.ensures.values_put c.put_values-at-4.ensures.values_put c.put_values.ensures.values_put);
}
