-- Each branch is a case of the contract. Assumes nothing.
use Rattle.std.proofs.Common.{refl}
use Rattle.std.proofs.lemmas.Result.{err_from_is_err_and}
use Rattle.lower.specs.declared.Sizes.{Sizes}
use Rattle.lower.specs.Stores.{Stores}
use Rattle.lower.proofs.Refusals.{number_some}
use Rattle.house_write.specs.Write.{WriteIs}
use Rattle.records.specs.Records.{written_first, written_past}
use Rattle.records.proofs.Alls.{none_looked_at, past_is}
use Rattle.records.proofs.Unloaded.{moved}
use Rattle.records.proofs.files.write_first.Goals as goal

pub returns-in_err-check_crowd : goal.returns-in_err-check_crowd
returns-in_err-check_crowd c =
    let s = c.args.system.now in
    let p = err_from_is_err_and c.from_residual.result c.from_residual.ensures.1 in
    let k = past_is s.sizes s.stores.old.now s.stores.new.now s.ands.now s.imuls.now s.bmuls.now s.zeros.now s.defs.now _ c.in_err-check_crowd.ensures (number_some _) in
    rw (p.1, p.2) (written_past k.some k.told refl)

pub returns : goal.returns
returns c =
    let s = c.args.system.now in
    written_first (none_looked_at s.sizes s.stores.old.now s.stores.new.now s.ands.now s.imuls.now s.bmuls.now s.zeros.now s.defs.now c.in_ok-check_crowd.ensures)
    (moved (λ (z : Sizes) (t : Stores). WriteIs z t c.args.out.now c.write.result c.write.new.out) _ _ _ _ c.system.ensures.same_sizes c.system.ensures.of_numbers c.write.ensures)
