-- The payload's fault comes first, then 6; with neither the counts have the field. Assumes nothing.
use mathlib.Core.Path.{ap, ◌∙◌}
use Rattle.std.proofs.lemmas.Result.{err_from_is_err_and}
use Rattle.house_file.specs.Reading.{counted, full_fault}
use Rattle.house_file.proofs.Faults.{first_told}
use Rattle.house_scan.specs.Parts.{entry_fault}
use Rattle.house_scan.proofs.entry.Goals as goal

pub returns-in_err-terms-clause-fault : goal.returns-in_err-terms-clause-fault
unfolding entry_fault
returns-in_err-terms-clause-fault c =
    let p = err_from_is_err_and c.from_residual.result c.from_residual.ensures.1 in
    rw (p.1, p.2) (first_told _ _ c.in_err-terms.ensures.fault)

pub returns-in_err-full-clause-fault : goal.returns-in_err-full-clause-fault
unfolding entry_fault
returns-in_err-full-clause-fault c =
    let p = err_from_is_err_and c.from_residual-in_err-full.result c.from_residual-in_err-full.ensures.1 in
    let k = c.tally-counts.ensures.0 ∙ ap (counted c.args.c c.args.head.tag) c.in_ok-terms.ensures.terms.are in
    rw (p.1, p.2, ← c.in_ok-terms.ensures.fault) (c.in_err-full.ensures.fault ∙ ap full_fault k)

pub returns-clause-fault : goal.returns-clause-fault
unfolding entry_fault
returns-clause-fault c =
    let k = c.tally-counts.ensures.0 ∙ ap (counted c.args.c c.args.head.tag) c.in_ok-terms.ensures.terms.are in
    rw (← c.in_ok-terms.ensures.fault) (c.in_ok-full.ensures.fault ∙ ap full_fault k)
