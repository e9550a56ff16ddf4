-- 3 to 6 by the checks in memory, then 14, then 12. Assumes nothing.
use mathlib.Core.Path.{sym, ◌∙◌}
use native.Mathlib.Omega.{arith}
use Rattle.std.proofs.lemmas.Result.{err_from_is_err_and}
use Rattle.lower.specs.Stores.{stores_of}
use Rattle.house_file.proofs.Faults.{number_above}
use Rattle.house_write.proofs.Whole.{fine, few, within, wide_is, bytes_is}
use Rattle.house_write.proofs.Answering.{fault_memory, fault_wide, fault_room, fault_none}
use Rattle.house_write.proofs.check.Goals as goal

pub returns-in_err-check : goal.returns-in_err-check
returns-in_err-check c =
    let p = err_from_is_err_and c.from_residual.result c.from_residual.ensures.1 in
    rw (p.1, p.2) (fault_memory c.args.system.now.sizes (stores_of c.args.system.now) c.args.room _ c.in_err-check.ensures (λ e. absurd (omega (arith, number_above c.in_err-check.field-0.0))))

pub has_wide-requires : goal.has_wide-requires
has_wide-requires c =
    let z = c.args.system.now.sizes in
    let s = stores_of c.args.system.now in
    within z s (fine z s (sym c.in_ok-check.ensures))

pub returns-then-has_wide : goal.returns-then-has_wide
returns-then-has_wide c =
    let z = c.args.system.now.sizes in
    let s = stores_of c.args.system.now in
    let e = sym c.in_ok-check.ensures in
    fault_wide z s c.args.room e (wide_is z s (fine z s e) ∙ sym c.has_wide.ensures ∙ c.if-has_wide.true)

pub bytes-requires : goal.bytes-requires
bytes-requires c =
    let z = c.args.system.now.sizes in
    let s = stores_of c.args.system.now in
    let e = sym c.in_ok-check.ensures in
    record { counts = few z s e; within = within z s (fine z s e) }

pub returns-then-room-bytes : goal.returns-then-room-bytes
returns-then-room-bytes c =
    let z = c.args.system.now.sizes in
    let s = stores_of c.args.system.now in
    let e = sym c.in_ok-check.ensures in
    let y = fine z s e in
    fault_room z s c.args.room e (wide_is z s y ∙ sym c.has_wide.ensures ∙ c.if-has_wide.false)
    (omega (arith, bytes_is z s y, c.bytes.ensures, c.if-room-bytes.true))

pub returns : goal.returns
returns c =
    let z = c.args.system.now.sizes in
    let s = stores_of c.args.system.now in
    let e = sym c.in_ok-check.ensures in
    let y = fine z s e in
    fault_none z s c.args.room e (wide_is z s y ∙ sym c.has_wide.ensures ∙ c.if-has_wide.false)
    (omega (arith, bytes_is z s y, c.bytes.ensures, c.if-room-bytes.false))
