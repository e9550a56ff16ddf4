-- No fault is that the file can be written; a fault writes nothing. Assumes nothing.
use mathlib.Core.Path.{sym}
use lib.ListN.{length}
use Rattle.std.proofs.lemmas.Result.{err_from_is_err_and}
use Rattle.lower.specs.Stores.{stores_of}
use Rattle.house_write.proofs.Answering.{none_memory, none-wide, write_refused, write_done}
use Rattle.house_write.proofs.write.Goals as goal

pub returns-in_err-check : goal.returns-in_err-check
returns-in_err-check c =
    let p = err_from_is_err_and c.from_residual.result c.from_residual.ensures.1 in
    rw (p.1, p.2) (write_refused c.args.system.now.sizes (stores_of c.args.system.now) c.args.out.now _ c.in_err-check.ensures)

pub file-requires : goal.file-requires
file-requires c =
    let z = c.args.system.now.sizes in
    let s = stores_of c.args.system.now in
    let e = sym c.in_ok-check.ensures in
    (none_memory z s (length c.args.out.now) e, none-wide z s (length c.args.out.now) e)

pub returns : goal.returns
returns c =
    write_done c.args.system.now.sizes (stores_of c.args.system.now) c.args.out.now c.in_ok-check.ensures _ _ c.file.ensures.0 c.file.ensures.1
