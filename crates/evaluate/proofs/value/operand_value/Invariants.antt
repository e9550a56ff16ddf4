use Rattle.std.proofs.Common.{◌≡◌, map, drop}
use Rattle.operand.specs.Numbers.{term_of}
use Rattle.lower.specs.Values.{word_of, value}
use Rattle.evaluate.proofs.value.operand_value.Given as goal

abbrev pub invariant-loop-i : goal.invariant-loop-i
invariant-loop-i l = l.sum ≡ value (word_of l.words) (map term_of (drop l.i l.ts))
