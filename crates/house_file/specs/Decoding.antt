-- What the bytes of a house file say, whatever they are: a decoder that gives an answer at each offset. Where a file is accepted, the
-- entries that it gives are those of the file.
--
--   u16_at s at         the two bytes at an offset; past the end they read as 0, which no accepted file asks for
--   term_at, terms_at    a term; n terms
--   operand_next s at   the offset after the operand at `at`
--   operands_at s k at  k operands; operands_next, the offset after them; operands_terms, how many terms they have
--   field_end s at      the offset after the field at `at`
--   operands_start      where the operands of a field start: after the destination of a Linear
--   entry_at s at       the field at `at`; entries_at s n at, n fields
--
-- Assumes nothing.
use Rattle.std.specs.Prelude.{ℕ, zero, suc, ◌+◌, ◌*◌, cond, List, [], ◌∷◌, eqb, get_or}
use Rattle.operand.specs.Numbers.{Term, Operand}
use Rattle.house_file.specs.Format.{Entry, LINEAR, arity}

-- "all numbers little-endian"
unfoldable pub u16_at : List ℕ → ℕ → ℕ
u16_at s at = get_or s at 0 + 256 * get_or s (at + 1) 0

unfoldable pub term_at : List ℕ → ℕ → Term
term_at s at = record { wire = u16_at s at; inner = u16_at s (at + 2); outer = u16_at s (at + 4) }

unfoldable pub terms_at : List ℕ → ℕ → ℕ → List Term
terms_at s zero at = []
terms_at s (suc n) at = term_at s at ∷ terms_at s n (at + 6)

abbrev pub operand_next : List ℕ → ℕ → ℕ
operand_next s at = at + 2 + 6 * u16_at s at

unfoldable pub operands_at : List ℕ → ℕ → ℕ → List Operand
operands_at s zero at = []
operands_at s (suc k) at = terms_at s (u16_at s at) (at + 2) ∷ operands_at s k (operand_next s at)

unfoldable pub operands_next : List ℕ → ℕ → ℕ → ℕ
operands_next s zero at = at
operands_next s (suc k) at = operands_next s k (operand_next s at)

unfoldable pub operands_terms : List ℕ → ℕ → ℕ → ℕ
operands_terms s zero at = 0
operands_terms s (suc k) at = u16_at s at + operands_terms s k (operand_next s at)

-- "tag byte, length as two bytes, payload"
abbrev pub field_end : List ℕ → ℕ → ℕ
field_end s at = at + 3 + u16_at s (at + 1)

unfoldable pub operands_start : ℕ → ℕ → ℕ
operands_start tag at = cond (eqb tag LINEAR) (at + 2) at

unfoldable pub entry_at : List ℕ → ℕ → Entry
entry_at s at =
    record {
      tag = get_or s at 0;
      dst = cond (eqb (get_or s at 0) LINEAR) (u16_at s (at + 3)) 0;
      operands = operands_at s (arity (get_or s at 0)) (operands_start (get_or s at 0) (at + 3));
    }

unfoldable pub entries_at : List ℕ → ℕ → ℕ → List Entry
entries_at s zero at = []
entries_at s (suc n) at = entry_at s at ∷ entries_at s n (field_end s at)
