-- Each branch is a case of the contract. Assumes nothing.
use Rattle.std.proofs.Common.{[], refl}
use Rattle.std.proofs.lemmas.Result.{err_from_is_err_and}
use Rattle.lower.proofs.Refusals.{number_some}
use Rattle.fusion.specs.Answer.{told_fused}
use Rattle.records.specs.Records.{fused_first, fused_past}
use Rattle.records.proofs.Alls.{none_looked_at, past_is}
use Rattle.records.proofs.fuse_first.Goals as goal

pub returns-in_err-check_crowd-clause-first : goal.returns-in_err-check_crowd-clause-first
unfolding told_fused
returns-in_err-check_crowd-clause-first c =
    let a = c.args in
    let p = err_from_is_err_and c.from_residual.result c.from_residual.ensures.1 in
    let k = past_is a.z a.old.now [] a.ands.now a.imuls.now a.bmuls.now a.zeros.now a.defs.now _ c.in_err-check_crowd.ensures (number_some _) in
    rw (p.1, p.2) (fused_past k.some k.told refl)

pub returns-clause-first : goal.returns-clause-first
returns-clause-first c =
    let a = c.args in
    fused_first (none_looked_at a.z a.old.now [] a.ands.now a.imuls.now a.bmuls.now a.zeros.now a.defs.now c.in_ok-check_crowd.ensures) c.fuse_numbers.ensures.first
