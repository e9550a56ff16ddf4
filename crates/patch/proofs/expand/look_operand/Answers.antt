-- The right side's terms, which are as many as its number says. Assumes nothing.
use Rattle.patch.proofs.Looking.{terms_length, terms_valid, entries_by}
use lib.ListN.{length}
use native.Mathlib.Omega.{arith}
use mathlib.Core.Path.{ap, ◌∙◌}
use Rattle.patch.proofs.expand.look_operand.Goals as goal

pub look_terms-requires : goal.look_terms-requires
look_terms-requires c =
    let k = ap length c.terms-ts.ensures ∙ terms_length c.args.stores.now.old.now c.args.stores.now.new.now c.args.h c.requires.stands in
    record { room = (c.requires.room.0, omega (arith, k, c.requires.room.1)); shifts_there = terms_valid c.args.stores.now.old.now c.args.stores.now.new.now c.args.h c.requires.stands c.terms-ts.result.now c.terms-ts.ensures c.requires.shifts_there; nodes = c.requires.nodes }

pub returns : goal.returns
returns c =
    let k = ap length c.terms-ts.ensures ∙ terms_length c.args.stores.now.old.now c.args.stores.now.new.now c.args.h c.requires.stands in
    (k, entries_by c.args.table.now c.args.decisions.now c.args.alive.now _ c.terms-ts.result.now _ c.args.at _ c.terms-ts.ensures k c.look_terms.ensures)
