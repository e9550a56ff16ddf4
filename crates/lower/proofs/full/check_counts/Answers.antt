-- There are fewer rows than operand numbers, which fit. Assumes nothing.
use Rattle.std.proofs.Common.{arith}
use Rattle.lower.proofs.Checks.{checked}
use Rattle.lower.proofs.full.check_counts.Goals as goal

pub overflow_add-z : goal.overflow_add-z
overflow_add-z c = let y = checked _ _ c.requires in omega (arith, y.ands_in, y.imuls_in)

pub overflow_add-z-else-z-gt-MAX_DEFINITIONS : goal.overflow_add-z-else-z-gt-MAX_DEFINITIONS
overflow_add-z-else-z-gt-MAX_DEFINITIONS c = let y = checked _ _ c.requires in omega (arith, y.ands_in, y.imuls_in, y.bmuls_in)

pub overflow_add-z-else-z-gt-MAX_DEFINITIONS-2 : goal.overflow_add-z-else-z-gt-MAX_DEFINITIONS-2
overflow_add-z-else-z-gt-MAX_DEFINITIONS-2 c = let y = checked _ _ c.requires in omega (arith, y.ands_in, y.imuls_in, y.bmuls_in, y.zeros_in)
