use Rattle.std.proofs.Common.{◌≡◌, drop}
use Rattle.lower.specs.Lists.{some_of}
use Rattle.lower.specs.Tables.{handle_double}
use Rattle.lower.proofs.definitions.operands_double.Given as goal

abbrev pub invariant-loop-h : goal.invariant-loop-h
invariant-loop-h l =
    some_of (handle_double l.stores.old.now l.stores.new.now l.defined l.definition) l.hs ≡ some_of (handle_double l.stores.old.now l.stores.new.now l.defined l.definition) (drop l.h-index l.hs)
