-- Each branch is a case of the contract. Assumes nothing.
use Rattle.std.proofs.Common.{refl}
use Rattle.std.proofs.lemmas.Result.{err_from_is_err_and}
use Rattle.refusal.specs.Refusals.{fault_in}
use Rattle.lower.specs.declared.Sizes.{Sizes}
use Rattle.lower.specs.Stores.{Stores}
use Rattle.lower.proofs.Refusals.{number_some}
use Rattle.fill_back.specs.Filling.{FillsIs}
use Rattle.records.specs.Records.{filled_first, filled_past}
use Rattle.records.proofs.Alls.{none_looked_at, past_is}
use Rattle.records.proofs.Unloaded.{moved}
use Rattle.records.proofs.fill_back_first.Goals as goal

pub returns-in_err-check_crowd : goal.returns-in_err-check_crowd
returns-in_err-check_crowd c =
    let s = c.args.system.now in
    let p = err_from_is_err_and c.from_residual.result c.from_residual.ensures.1 in
    let k = past_is s.sizes s.stores.old.now s.stores.new.now s.ands.now s.imuls.now s.bmuls.now s.zeros.now s.defs.now _ c.in_err-check_crowd.ensures (number_some _) in
    rw (p.1, p.2) (filled_past k.some k.told refl)

pub returns : goal.returns
returns c =
    let s = c.args.system.now in
    filled_first (none_looked_at s.sizes s.stores.old.now s.stores.new.now s.ands.now s.imuls.now s.bmuls.now s.zeros.now s.defs.now c.in_ok-check_crowd.ensures)
    (moved (λ (z : Sizes) (t : Stores). FillsIs z t c.args.flags.now c.args.assignment.now c.fill_back.new.assignment (fault_in c.fill_back.result)) _ _ _ _ c.system.ensures.same_sizes c.system.ensures.of_numbers c.fill_back.ensures)
