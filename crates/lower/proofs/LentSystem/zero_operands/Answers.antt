-- The list is as long as its count asks. Assumes nothing.
use Rattle.std.proofs.Common.{sym, length-take-le}
use Rattle.lower.proofs.Checks.{checked}
use Rattle.lower.proofs.LentSystem.zero_operands.Goals as goal

pub slice_bounds-result-end : goal.slice_bounds-result-end
slice_bounds-result-end c = sym (length-take-le _ _ (checked _ _ c.requires).zeros_in)
