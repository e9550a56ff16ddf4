-- The first numbers are those of the records, and what they give is what all give. Assumes nothing.
use mathlib.Core.Path.{subst}
use Rattle.lower.specs.Stores.{Stores}
use Rattle.std.proofs.Common.{length}
use Rattle.records.specs.Records.{looked, found, EvaluatesFirst}
use Rattle.records.proofs.Alls.{evaluates_records}
use Rattle.records.proofs.Unloaded.{len_is, taken}
use Rattle.records.proofs.values.evaluate_records.Goals as goal

pub returns : goal.returns
returns c =
    let s = c.args.system.now in
    let ys = s.defs.now in
    let n = c.unload.new.self in
    let e = c.unload.ensures.are in
    evaluates_records s.sizes s.stores.old.now s.stores.new.now s.ands.now s.imuls.now s.bmuls.now s.zeros.now ys n.len (len_is ys n e) c.args.assignment.now c.args.out.now c.evaluate_first.new.out c.evaluate_first.result
    (subst (λ (t : Stores). EvaluatesFirst (looked (length ys) s.sizes) (found s.sizes s.stores.old.now s.stores.new.now ys) s.sizes t c.args.assignment.now c.args.out.now c.evaluate_first.new.out c.evaluate_first.result)
    (taken ys n e s.stores.old.now s.stores.new.now s.ands.now s.imuls.now s.bmuls.now s.zeros.now) c.evaluate_first.ensures)
