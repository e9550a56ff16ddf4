-- The operands of each list stand in their stores. Assumes nothing.
use Rattle.lower.proofs.Checks.{checked, stand}
use Rattle.lower.proofs.definitions.lists_double.Goals as goal

pub operands_double-requires : goal.operands_double-requires
operands_double-requires c = let y = checked _ _ c.requires in rw c.and_operands.ensures (stand _ _ y _ y.ands_sound)

pub operands_double-requires-else-operands_double : goal.operands_double-requires-else-operands_double
operands_double-requires-else-operands_double c = let y = checked _ _ c.requires in rw c.imul_operands.ensures (stand _ _ y _ y.imuls_sound)

pub operands_double-requires-else-operands_double-2 : goal.operands_double-requires-else-operands_double-2
operands_double-requires-else-operands_double-2 c = let y = checked _ _ c.requires in rw c.bmul_operands.ensures (stand _ _ y _ y.bmuls_sound)

pub operands_double-requires-else-operands_double-3 : goal.operands_double-requires-else-operands_double-3
operands_double-requires-else-operands_double-3 c = let y = checked _ _ c.requires in rw c.zero_operands.ensures (stand _ _ y _ y.zeros_sound)

pub operands_double-requires-else-operands_double-4 : goal.operands_double-requires-else-operands_double-4
operands_double-requires-else-operands_double-4 c = let y = checked _ _ c.requires in rw c.right_sides.ensures (stand _ _ y _ y.rhss_sound)
