-- The five lists, the last one first, are all operands. Assumes nothing.
use Rattle.std.proofs.Common.{◌∙◌}
use Rattle.lower.specs.Stores.{stores_of}
use Rattle.lower.proofs.Checks.{checked, placed, memory_places}
use Rattle.legraph.specs.Tables.{graph}
use Rattle.legraph.proofs.Laws.{all_noted, all_there}
use Rattle.legraph.proofs.uses.build_use_def.Goals as goal

pub right_sides-rhss-requires : goal.right_sides-rhss-requires
right_sides-rhss-requires c = memory_places _ _ _ c.requires.memory_sound

pub zero_operands-zeros-requires : goal.zero_operands-zeros-requires
zero_operands-zeros-requires c = memory_places _ _ _ c.requires.memory_sound

pub bmul_operands-bmuls-requires : goal.bmul_operands-bmuls-requires
bmul_operands-bmuls-requires c = memory_places _ _ _ c.requires.memory_sound

pub imul_operands-imuls-requires : goal.imul_operands-imuls-requires
imul_operands-imuls-requires c = memory_places _ _ _ c.requires.memory_sound

pub and_operands-ands-requires : goal.and_operands-ands-requires
and_operands-ands-requires c = memory_places _ _ _ c.requires.memory_sound

pub harvest_uses-n-requires-clause-all_stand : goal.harvest_uses-n-requires-clause-all_stand
harvest_uses-n-requires-clause-all_stand c = rw c.right_sides-rhss.ensures (all_there _ _ c.requires.memory_sound).rhss_part

pub harvest_uses-n-requires-2-clause-all_stand : goal.harvest_uses-n-requires-2-clause-all_stand
harvest_uses-n-requires-2-clause-all_stand c = rw c.zero_operands-zeros.ensures (all_there _ _ c.requires.memory_sound).zeros_part

pub harvest_uses-n-requires-3-clause-all_stand : goal.harvest_uses-n-requires-3-clause-all_stand
harvest_uses-n-requires-3-clause-all_stand c = rw c.bmul_operands-bmuls.ensures (all_there _ _ c.requires.memory_sound).bmuls_part

pub harvest_uses-n-requires-4-clause-all_stand : goal.harvest_uses-n-requires-4-clause-all_stand
harvest_uses-n-requires-4-clause-all_stand c = rw c.imul_operands-imuls.ensures (all_there _ _ c.requires.memory_sound).imuls_part

pub harvest_uses-requires-clause-all_stand : goal.harvest_uses-requires-clause-all_stand
harvest_uses-requires-clause-all_stand c = rw c.and_operands-ands.ensures (all_there _ _ c.requires.memory_sound).ands_part

pub returns : goal.returns
returns c =
    c.harvest_uses.ensures.0 ∙ rw (c.harvest_uses-n-4.ensures.0, c.harvest_uses-n-3.ensures.0, c.harvest_uses-n-2.ensures.0, c.harvest_uses-n.ensures.0, c.right_sides-rhss.ensures, c.zero_operands-zeros.ensures, c.bmul_operands-bmuls.ensures, c.imul_operands-imuls.ensures, c.and_operands-ands.ensures)
    (all_noted c.args.table.now c.args.system.now.sizes (stores_of c.args.system.now) (graph c.args.first.now c.args.uses.now 0) (placed _ _ (checked _ _ (memory_places 8192 _ _ c.requires.memory_sound))))
