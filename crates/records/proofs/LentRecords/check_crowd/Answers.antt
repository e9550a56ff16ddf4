-- The rows' fault, then that of the definitions, then 6. Assumes nothing.
use Rattle.std.proofs.Common.{sym, ap, ◌∙◌, arith, ℕ}
use lib.ListN.{length-map}
use Rattle.lower.proofs.Refusals.{exit_is, number_some}
use Rattle.records.specs.Records.{dsts_of, rhss_of, records_in, crowded}
use Rattle.records.specs.declared.Definition.{Definition}
use Rattle.records.proofs.Crowds.{calm_none, crowded_over, crowd_rows, crowd_definitions, crowd_full}
use Rattle.records.proofs.Parts.{same_length}
use Rattle.records.proofs.LentRecords.check_crowd.Goals as goal

pub check_definitions-requires : goal.check_definitions-requires
check_definitions-requires c = let s = c.args.self.now in (crowded_over s.sizes _ (sym c.is_crowded.ensures ∙ c.if-is_crowded.true)).1

pub returns-in_err-check_rows : goal.returns-in_err-check_rows
returns-in_err-check_rows c =
    let s = c.args.self.now in
    let o = crowded_over s.sizes _ (sym c.is_crowded.ensures ∙ c.if-is_crowded.true) in
    exit_is _ _ _ c.from_residual.ensures.1
    (crowd_rows s.sizes _ _ _ _ _ _ (dsts_of s.defs.now) (rhss_of s.defs.now) (same_length s.defs.now) o.0 (omega (arith, o.1, length-map s.defs.now (λ (d : Definition). d.dst))) _ c.in_err-check_rows.ensures (number_some _))

pub returns-in_err-check_definitions : goal.returns-in_err-check_definitions
returns-in_err-check_definitions c =
    let s = c.args.self.now in
    let o = crowded_over s.sizes _ (sym c.is_crowded.ensures ∙ c.if-is_crowded.true) in
    exit_is _ _ _ c.from_residual-in_err-check_definitions.ensures.1
    (crowd_definitions s.sizes _ _ _ _ _ _ (dsts_of s.defs.now) (rhss_of s.defs.now) (same_length s.defs.now) o.0 (omega (arith, o.1, length-map s.defs.now (λ (d : Definition). d.dst))) c.in_ok-check_rows.ensures _ c.in_err-check_definitions.ensures (number_some _))

pub returns-then-is_crowded : goal.returns-then-is_crowded
returns-then-is_crowded c =
    let s = c.args.self.now in
    let o = crowded_over s.sizes _ (sym c.is_crowded.ensures ∙ c.if-is_crowded.true) in
    crowd_full s.sizes _ _ _ _ _ _ (dsts_of s.defs.now) (rhss_of s.defs.now) (same_length s.defs.now) o.0 (omega (arith, o.1, length-map s.defs.now (λ (d : Definition). d.dst))) c.in_ok-check_rows.ensures c.in_ok-check_definitions.ensures

pub returns : goal.returns
returns c =
    let s = c.args.self.now in
    sym (calm_none s.sizes (records_in s) (ap (λ (n : ℕ). crowded s.sizes n) (length-map s.defs.now (λ (d : Definition). d.dst)) ∙ sym c.is_crowded.ensures ∙ c.if-is_crowded.false))
