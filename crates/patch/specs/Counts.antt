-- What the counts of a patched system are to each other (01, "The patched lists").
--
--   Counted p c    the four lists of constraints keep their lengths; definitions before = gone + stranded + committed, and after =
--                  stranded + committed; the terms written are the lengths of the rebuilt operands; kept is a difference of numbers
--
-- Assumes nothing.
use Rattle.std.specs.Prelude.{◌≡◌, ℕ, ◌+◌, Bool, length}
use Rattle.operand.specs.Numbers.{Operand}
use Rattle.lower.specs.Lists.{sum_of}
use Rattle.lower.specs.Model.{System}
use Rattle.patch.specs.Patch.{expand_operand, commits, rebuilds, terms_written, gone, stranded, patched, kept}

pub record Counted (p : System) (c : ℕ → Bool) : Type 0 where
  -- "the other four lists keep their lengths"
  pub ands_count : length (patched p c).ands ≡ length p.ands
  pub imuls_count : length (patched p c).imuls ≡ length p.imuls
  pub bmuls_count : length (patched p c).bmuls ≡ length p.bmuls
  pub zeros_count : length (patched p c).zeros ≡ length p.zeros
  -- "Definitions before = gone + stranded + committed"
  pub linears_count : length p.linears ≡ length (gone p c) + length (stranded p c) + length (commits p c)
  pub after_count : length (patched p c).linears ≡ length (stranded p c) + length (commits p c)
  pub written_count : terms_written p c ≡ sum_of (λ (o : Operand). length (expand_operand p c o)) (rebuilds p c)
  -- "the wire count less the uncommitted definitions": no more than there are wires
  pub kept_count : p.wires ≡ kept p c + (length (gone p c) + length (stranded p c))
