-- What was read is fused. Assumes nothing.
use Rattle.std.proofs.lemmas.Result.{err_from_is_err_and}
use Rattle.fusion.specs.Answer.{told_fused}
use Rattle.report.specs.Outcome as C
use mathlib.Core.Path.{refl}
use Rattle.report.proofs.outcome.read_and_fuse.Goals as goal

pub returns-in_err-read : goal.returns-in_err-read
returns-in_err-read c =
    let p = err_from_is_err_and c.from_residual.result c.from_residual.ensures.1 in
    rw (p.1, p.2) (C.unread (record { reads = c.in_err-read.ensures; new_same = refl; flags_same = refl }))

pub returns-in_err-counts : goal.returns-in_err-counts
unfolding told_fused
returns-in_err-counts c =
    let p = err_from_is_err_and c.from_residual-in_err-counts.result c.from_residual-in_err-counts.ensures.1 in
    rw (p.1, p.2) (C.unfused (record { reads = c.in_ok-read.ensures; new_same = refl; flags_same = refl }) c.in_err-counts.ensures)

pub returns : goal.returns
returns c = C.fused (record { reads = c.in_ok-read.ensures; new_same = refl; flags_same = refl }) c.in_ok-counts.ensures
