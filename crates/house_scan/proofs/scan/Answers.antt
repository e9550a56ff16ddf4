-- The first field's fault, or what is read from offset 5. Assumes nothing.
use mathlib.Core.Path.{◌∙◌}
use Rattle.std.proofs.lemmas.Result.{err_from_is_err_and}
use Rattle.house_file.proofs.Faults.{placed_ok, placed_err}
use Rattle.house_scan.proofs.Laws.{scan_shut, scan_in}
use Rattle.house_scan.proofs.scan.Goals as goal

pub returns-in_err-wires : goal.returns-in_err-wires
returns-in_err-wires c =
    let p = err_from_is_err_and c.from_residual.result c.from_residual.ensures.1 in
    let q = placed_err _ _ c.in_err-wires.ensures in
    rw (p.1, p.2, q.here) (scan_shut c.args.s.now _ (rw q.refused at c.wire_count.ensures.fault))

pub returns : goal.returns
returns c =
    let h = placed_ok _ _ c.in_ok-wires.ensures in
    let f = rw h at c.wire_count.ensures.fault in
    let k = rw h at c.wire_count.ensures.wires in
    c.fields.ensures ∙ rw k.are (scan_in c.args.s.now f)
