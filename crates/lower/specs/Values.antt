-- What operands are worth under an assignment, and when constraints hold (01, "Shifts").
--
--   moved n x        the word x shifted by the shift of number n. Where n is no shift's number there is nothing that it could be; the 0
--                    that stands there is read by nobody, since each check refuses such a number with 4
--   term_value w t    the word of the term's wire, shifted by inner, then outer; w i is the word of wire i
--   value w o        the xor of the operand's terms
--   word_of ws        the assignment that a list of words is, one to a wire; 01 refuses one that is not as long as the wire count (13)
--   AndHolds, ZeroHolds, DefinitionHolds    what each kind asks of the values. A row that lacks an operand, or has one too many, does not
--                    hold: no value that is missing reads as 0
--   Satisfies        the assignment satisfies every constraint; Imul and Bmul are any relation of their operands' values
--
-- Assumes nothing.
use Rattle.std.specs.Prelude.{◌≡◌, ℕ, cond, List, [], ◌∷◌, map, get_or}
use Rattle.std.specs.Int.Bits.{bit_xor, bit_and}
use Rattle.shift.specs.Shifts.{valid_number, shift_at, apply_of}
use Rattle.operand.specs.Numbers.{Term, Operand}
use Rattle.lower.specs.Lists.{All}
use Rattle.lower.specs.Model.{Row, Definition, System}

unfoldable pub moved : ℕ → ℕ → ℕ
moved n x = cond (valid_number n) (apply_of (shift_at n) x) 0

-- "An operand's value is the xor of its terms' words, shifted by inner, then outer"
unfoldable pub term_value : (ℕ → ℕ) → Term → ℕ
term_value w t = moved t.outer (moved t.inner (w t.wire))

abbrev pub value : (ℕ → ℕ) → Operand → ℕ
value w [] = 0
value w (t ∷ ts) = bit_xor (term_value w t) (value w ts)

abbrev pub word_of : List ℕ → ℕ → ℕ
word_of ws i = get_or ws i 0

-- "And holds if a and b, bitwise, are c"
abbrev pub AndHolds : List ℕ → Type 0
AndHolds [] = ⊥
AndHolds (a ∷ []) = ⊥
AndHolds (a ∷ b ∷ []) = ⊥
AndHolds (a ∷ b ∷ c ∷ []) = bit_and a b ≡ c
AndHolds (a ∷ b ∷ c ∷ d ∷ vs) = ⊥

-- "Zero if val is 0"
abbrev pub ZeroHolds : List ℕ → Type 0
ZeroHolds [] = ⊥
ZeroHolds (val ∷ []) = val ≡ 0
ZeroHolds (val ∷ v ∷ vs) = ⊥

abbrev pub RowHolds : (List ℕ → Type 0) → (ℕ → ℕ) → Row → Type 0
RowHolds R w r = R (map (value w) r)

-- "Linear if the right side is the destination's word"
abbrev pub DefinitionHolds : (ℕ → ℕ) → Definition → Type 0
DefinitionHolds w d = value w d.rhs ≡ w d.dst

-- "Imul and Bmul by any fixed relation of their values"
pub record Satisfies (Imul Bmul : List ℕ → Type 0) (w : ℕ → ℕ) (p : System) : Type 0 where
  pub ands_hold : All (RowHolds AndHolds w) p.ands
  pub imuls_hold : All (RowHolds Imul w) p.imuls
  pub bmuls_hold : All (RowHolds Bmul w) p.bmuls
  pub zeros_hold : All (RowHolds ZeroHolds w) p.zeros
  pub linears_hold : All (DefinitionHolds w) p.linears
