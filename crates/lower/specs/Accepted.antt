-- Which systems are accepted (01, "Numbers given back"), each field with the number that its failure is given.
--
--   Shaped p         rows of 3, 4, 6 and 1 operands
--   Named p          5: every wire named is below the wire count
--   Shifted p        4: every shift number is a valid shift's
--   MAX_WIRES ..     the limits; MAX_TERMS is that of a system to fuse
--   Limits n p       6: within the limits, with n terms at most
--   Once ds          8: no wire is defined twice
--   NotEmpty p       9: every definition has a term
--   Single p         10: the outer shift is an identity in a definition's term, and in any term naming a defined wire
--   Reaches p v w    the definition of v names w, or a wire whose definition reaches w
--   NoCircle p       11: no definition reaches itself
--   Accepted p       all of these, with MAX_TERMS terms at most
--
-- Assumes nothing.
use Rattle.std.specs.Prelude.{◌≡◌, ℕ, ◌+◌, ◌<◌, ◌≤◌, Bool, true, false, eqb, length}
use mathlib.Core.List.{List, [], ◌∷◌, Memᴰ}
use Rattle.std.proofs.Math.Option.{some}
use Rattle.shift.specs.Shifts.{valid_number, shift_at}
use Rattle.operand.specs.Numbers.{Term, Operand}
use Rattle.lower.specs.Lists.{All, joined}
use Rattle.lower.specs.Model.{Row, Definition, System, definition_operands, terms_of, defines, definition_of}

pub record Shaped (p : System) : Type 0 where
  pub ands_shaped : All (λ (r : Row). length r ≡ 3) p.ands
  pub imuls_shaped : All (λ (r : Row). length r ≡ 4) p.imuls
  pub bmuls_shaped : All (λ (r : Row). length r ≡ 6) p.bmuls
  pub zeros_shaped : All (λ (r : Row). length r ≡ 1) p.zeros

-- "wire not below the wire count"
pub record Named (p : System) : Type 0 where
  pub terms_named : All (λ (t : Term). t.wire < p.wires) (terms_of p)
  pub destinations_named : All (λ (d : Definition). d.dst < p.wires) p.linears

-- "invalid shift number"
abbrev pub ShiftsOf : Term → Type 0
ShiftsOf t = (valid_number t.inner ≡ true) × (valid_number t.outer ≡ true)

abbrev pub Shifted : System → Type 0
Shifted p = All ShiftsOf (terms_of p)

-- "wire count 0 or above 4,096; over 1,024 definitions, 1,024 other constraints in all, 8,192 terms"
abbrev pub MAX_WIRES : ℕ
MAX_WIRES = 4096

abbrev pub MAX_DEFINITIONS : ℕ
MAX_DEFINITIONS = 1024

abbrev pub MAX_OTHERS : ℕ
MAX_OTHERS = 1024

abbrev pub MAX_TERMS : ℕ
MAX_TERMS = 8192

pub record Limits (limit : ℕ) (p : System) : Type 0 where
  pub wires_some : 0 < p.wires
  pub wires_few : p.wires ≤ MAX_WIRES
  pub definitions_few : length p.linears ≤ MAX_DEFINITIONS
  pub others_few : length p.ands + length p.imuls + length p.bmuls + length p.zeros ≤ MAX_OTHERS
  pub terms_few : length (terms_of p) ≤ limit

-- "a wire defined twice"
abbrev pub Once : List Definition → Type 0
Once [] = Unit {0}
Once (d ∷ ds) = (defines ds d.dst ≡ false) × Once ds

-- "a definition with no term"
abbrev pub NotEmpty : System → Type 0
NotEmpty p = All (λ (d : Definition). 0 < length d.rhs) p.linears

-- "Amount 0 of any variant is an identity"
abbrev pub is_identity : ℕ → Bool
is_identity n = eqb (shift_at n).amount 0

-- "outer shift not an identity in a definition's term, or in any term naming a defined wire"
pub record Single (p : System) : Type 0 where
  pub definitions_single : All (λ (t : Term). is_identity t.outer ≡ true) (joined (definition_operands p))
  pub uses_single : All (λ (t : Term). defines p.linears t.wire ≡ true → is_identity t.outer ≡ true) (terms_of p)

-- "a definition reaches itself"
pub data Reaches (p : System) : ℕ → ℕ → Type 0 where
  names : {v : ℕ} (rhs : Operand) (t : Term) → definition_of p.linears v ≡ some rhs → Memᴰ t rhs → Reaches p v t.wire
  through : {u v w : ℕ} → Reaches p u v → Reaches p v w → Reaches p u w

abbrev pub NoCircle : System → Type 0
NoCircle p = (w : ℕ) → Reaches p w w → ⊥

pub record Accepted (p : System) : Type 0 where
  pub shaped : Shaped p
  pub named : Named p
  pub shifted : Shifted p
  pub limits : Limits MAX_TERMS p
  pub once : Once p.linears
  pub not-empty : NotEmpty p
  pub single : Single p
  pub no_circle : NoCircle p
