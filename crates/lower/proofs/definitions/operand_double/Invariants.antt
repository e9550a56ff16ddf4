use Rattle.std.proofs.Common.{◌≡◌, ℕ, drop}
use Rattle.operand.specs.Numbers.{term_of}
use Rattle.lower.specs.Lists.{some_of}
use Rattle.lower.specs.Tables.{double_in, handle_double}
use Rattle.lower.proofs.definitions.operand_double.Given as goal

abbrev pub invariant-loop-t : goal.invariant-loop-t
invariant-loop-t l =
    handle_double l.stores.old.now l.stores.new.now l.defined l.definition l.h ≡ some_of (λ (t : ℕ). double_in l.defined l.definition (term_of t)) (drop l.t-index l.t-items)
