-- What the evaluator does, list after list, and what it relies on.
--
--   Ready old new h    the operand of number h stands in its store, and its terms' shifts are valid
--   values_at           the values of the operands of some numbers; ws is the assignment
--   count_in z          how many operands there are, by the counts
--
-- Assumes nothing.
use Rattle.std.specs.Prelude.{ℕ, ◌+◌, ◌*◌, List, map}
use Rattle.operand.specs.Numbers.{operand_of}
use Rattle.lower.specs.declared.Sizes.{Sizes}
use Rattle.lower.specs.Lists.{All}
use Rattle.lower.specs.Accepted.{ShiftsOf}
use Rattle.lower.specs.Stores.{Stands}
use Rattle.lower.specs.Values.{value, word_of}

pub record Ready (old new : List ℕ) (h : ℕ) : Type 0 where
  pub stands : Stands old new h
  pub shifted : All ShiftsOf (operand_of old new h)

abbrev pub value_at : List ℕ → List ℕ → List ℕ → ℕ → ℕ
value_at old new ws h = value (word_of ws) (operand_of old new h)

unfoldable pub values_at : List ℕ → List ℕ → List ℕ → List ℕ → List ℕ
values_at old new ws hs = map (value_at old new ws) hs

abbrev pub count_in : Sizes → ℕ
count_in z = 3 * z.ands + 4 * z.imuls + 6 * z.bmuls + z.zeros + z.linears
