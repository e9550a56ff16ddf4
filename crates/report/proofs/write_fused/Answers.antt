-- By what writing answers. Assumes nothing.
use native.Mathlib.Omega.{arith}
use Rattle.std.proofs.lemmas.Result.{err_from_is_err_and}
use Rattle.report.specs.File.{short, written}
use Rattle.report.proofs.Filing.{was_unwritten, front_put}
use Rattle.report.proofs.write_fused.Goals as goal

pub returns-then-flags-wires : goal.returns-then-flags-wires
returns-then-flags-wires c = short c.if-flags-wires.true

pub returns-in_err-length : goal.returns-in_err-length
returns-in_err-length c =
    let p = err_from_is_err_and c.from_residual.result c.from_residual.ensures.1 in
    rw (p.1, p.2) (was_unwritten c.if-flags-wires.false c.in_err-length.ensures)

pub returns : goal.returns
returns c =
    rw (c.copy_from_slice.ensures.after, front_put c.args.system.now.sizes.wires c.args.made.now c.args.flags.now (omega (arith, c.requires)) c.if-flags-wires.false)
    (written c.if-flags-wires.false c.in_ok-length.ensures)
