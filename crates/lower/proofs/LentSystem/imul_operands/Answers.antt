-- The list is as long as its count asks. Assumes nothing.
use Rattle.std.proofs.Common.{arith, sym, length-take-le}
use Rattle.lower.proofs.Checks.{checked}
use Rattle.lower.proofs.LentSystem.imul_operands.Goals as goal

pub overflow_mul-result : goal.overflow_mul-result
overflow_mul-result c = omega (arith, (checked _ _ c.requires).imuls_in)

pub slice_bounds-result-end : goal.slice_bounds-result-end
slice_bounds-result-end c = sym (length-take-le _ _ (checked _ _ c.requires).imuls_in)
