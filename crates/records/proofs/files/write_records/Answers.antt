-- The first numbers are those of the records, and what is written from them is written from all. Assumes nothing.
use mathlib.Core.Path.{subst}
use Rattle.lower.specs.Stores.{Stores}
use Rattle.std.proofs.Common.{length}
use Rattle.records.specs.Records.{looked, found, WritesFirst}
use Rattle.records.proofs.Alls.{writes_records}
use Rattle.records.proofs.Unloaded.{len_is, taken}
use Rattle.records.proofs.files.write_records.Goals as goal

pub returns : goal.returns
returns c =
    let s = c.args.system.now in
    let ys = s.defs.now in
    let n = c.unload.new.self in
    let e = c.unload.ensures.are in
    writes_records s.sizes s.stores.old.now s.stores.new.now s.ands.now s.imuls.now s.bmuls.now s.zeros.now ys n.len (len_is ys n e) c.args.out.now c.write_first.new.out c.write_first.result
    (subst (λ (t : Stores). WritesFirst (looked (length ys) s.sizes) (found s.sizes s.stores.old.now s.stores.new.now ys) s.sizes t c.args.out.now c.write_first.new.out c.write_first.result)
    (taken ys n e s.stores.old.now s.stores.new.now s.ands.now s.imuls.now s.bmuls.now s.zeros.now) c.write_first.ensures)
