-- Its terms are a part of a store. Assumes nothing.
use Rattle.std.proofs.Common.{sym, ap, ◌∙◌, map}
use Rattle.operand.specs.Numbers.{operand_of, term_of}
use Rattle.lower.specs.Lists.{some_of}
use Rattle.lower.specs.Tables.{double_in, handle_double}
use Rattle.lower.proofs.Somes.{some-map}
use Rattle.lower.proofs.definitions.operand_double.Goals as goal

pub loop-t-init : goal.loop-t-init
unfolding handle_double operand_of
loop-t-init c =
    ap (λ l. some_of (double_in c.args.defined.now c.args.definition) (map term_of l)) (sym c.terms-t-items.ensures)
    ∙ some-map (double_in c.args.defined.now c.args.definition) term_of c.terms-t-items.result.now
