-- The terms that are looked at are the operand's. Assumes nothing.
use Rattle.std.proofs.Common.{◌≡◌, sym, ap, ◌∙◌, map, true}
use Rattle.operand.specs.Numbers.{operand_at, operand_of, within, term_of}
use Rattle.lower.specs.Faults.{operand_fault, first_fault, term_fault}
use Rattle.lower.proofs.places.check_operand.Goals as goal

pub returns : goal.returns
unfolding operand_fault operand_of
returns c =
    let e : within c.args.stores.now.old.now c.args.stores.now.new.now (operand_at c.args.h) ≡ true = ap (within c.args.stores.now.old.now c.args.stores.now.new.now) (sym c.from_number.ensures) ∙ sym c.holds.ensures ∙ c.if-not-holds.false in
    rw e (c.check_terms.ensures ∙ ap (λ l. first_fault (term_fault c.args.wires) (map term_of l)) c.terms.ensures)
