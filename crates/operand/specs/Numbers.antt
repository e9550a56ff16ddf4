-- Terms and operands as they stand in stores: a term is one number, and so is an operand.
--
--   Term              a wire, the number of its inner and that of its outer shift, as in the house file
--   Operand           the terms that are xored
--   term_of t          the term that the number t stands for: wire in the low 16 bits, inner in the next 16, outer above
--   term_number        the number of a term
--   operand_at h       the operand that the number h stands for: 32 bits of length, 31 of start, the top bit for the new store
--   operand_number     the number of an operand that starts below 2^31
--   store_for          the store that holds the operand
--   Within, within    the operand ends within its store: as a fact, and as a test
--   terms_at           the numbers of its terms: a part of whichever store holds it
--   operand_of         its terms
--
-- Every number below 2^64 is a term and an operand. What stands above the 16 bits of an outer shift makes a number that is no shift's.
--
-- Assumes nothing.
use Rattle.std.specs.Prelude.{ℕ, ◌+◌, ◌*◌, ◌/◌, ◌%◌, ◌≤◌, Bool, cond, List, map, leb, length, take, drop}
use Rattle.operand.specs.declared.WireOperand.{WireOperand}

-- "per term wire, inner shift number, outer shift number"
pub record Term : Type 0 where
  pub wire : ℕ
  pub inner : ℕ
  pub outer : ℕ

-- "An operand's value is the xor of its terms' words"
abbrev pub Operand : Type 0
Operand = List Term

abbrev pub term_of : ℕ → Term
term_of t = record { wire = t % 65536; inner = t / 65536 % 65536; outer = t / 4294967296 }

abbrev pub term_number : Term → ℕ
term_number t = t.wire + 65536 * t.inner + 4294967296 * t.outer

abbrev pub operand_at : ℕ → WireOperand
operand_at h = record { start = h / 4294967296 % 2147483648; len = h % 4294967296; new = leb 9223372036854775808 h }

abbrev pub operand_number : WireOperand → ℕ
operand_number o = o.len + 4294967296 * o.start + cond o.new 9223372036854775808 0

-- "New terms go to a second store, so an operand is handed out as a part of whichever store holds it"
abbrev pub store_for : List ℕ → List ℕ → WireOperand → List ℕ
store_for old new o = cond o.new new old

abbrev pub Within : List ℕ → List ℕ → WireOperand → Type 0
Within old new o = o.start + o.len ≤ length (store_for old new o)

abbrev pub within : List ℕ → List ℕ → WireOperand → Bool
within old new o = leb (o.start + o.len) (length (store_for old new o))

abbrev pub terms_at : List ℕ → List ℕ → WireOperand → List ℕ
terms_at old new o = take o.len (drop o.start (store_for old new o))

unfoldable pub operand_of : List ℕ → List ℕ → ℕ → Operand
operand_of old new h = map term_of (terms_at old new (operand_at h))
