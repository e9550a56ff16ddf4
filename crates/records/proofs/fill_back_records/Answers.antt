-- The first numbers are those of the records, and filling back over them is filling back over all. Assumes nothing.
use mathlib.Core.Path.{subst}
use Rattle.refusal.specs.Refusals.{fault_in}
use Rattle.lower.specs.Stores.{Stores}
use Rattle.std.proofs.Common.{length}
use Rattle.records.specs.Records.{looked, found, FillsFirst}
use Rattle.records.proofs.Alls.{fills_records}
use Rattle.records.proofs.Unloaded.{len_is, taken}
use Rattle.records.proofs.fill_back_records.Goals as goal

pub returns : goal.returns
returns c =
    let s = c.args.system.now in
    let ys = s.defs.now in
    let n = c.unload.new.self in
    let e = c.unload.ensures.are in
    fills_records s.sizes s.stores.old.now s.stores.new.now s.ands.now s.imuls.now s.bmuls.now s.zeros.now ys n.len (len_is ys n e) c.args.flags.now c.args.assignment.now c.fill_back_first.new.assignment (fault_in c.fill_back_first.result)
    (subst (λ (t : Stores). FillsFirst (looked (length ys) s.sizes) (found s.sizes s.stores.old.now s.stores.new.now ys) s.sizes t c.args.flags.now c.args.assignment.now c.fill_back_first.new.assignment (fault_in c.fill_back_first.result))
    (taken ys n e s.stores.old.now s.stores.new.now s.ands.now s.imuls.now s.bmuls.now s.zeros.now) c.fill_back_first.ensures)
