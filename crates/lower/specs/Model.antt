-- A constraint system (01, "Modules" and "House file"): five lists over numbered wires.
--
--   Row              an And, Imul, Bmul or Zero: its 3, 4, 6 or 1 operands in file order
--   Definition       a Linear: its destination and its right side
--   System           how many wires, the four lists of rows and the list of definitions
--   operands_of p     all operands in the writer's order; terms_of p, all terms
--   defines ds w     some definition has the wire w as its destination
--   definition_of     the right side that defines a wire
--
-- Assumes nothing.
use Rattle.std.specs.Prelude.{ℕ, Bool, cond, List, [], ◌∷◌, ◌++◌, map, eqb}
use Rattle.std.proofs.Math.Option.{Option, none, some}
use Rattle.operand.specs.Numbers.{Term, Operand}
use Rattle.lower.specs.Lists.{some_of, joined}

-- "2 And (a, b, c); 3 Imul (a, b, hi, lo); 4 Bmul (a_lo, a_hi, b_lo, b_hi, c_lo, c_hi); 5 Zero (val)"
abbrev pub Row : Type 0
Row = List Operand

-- "6 Linear (destination wire, 2 bytes, then right side)"
pub record Definition : Type 0 where
  pub dst : ℕ
  pub rhs : Operand

pub record System : Type 0 where
  pub wires : ℕ
  pub ands : List Row
  pub imuls : List Row
  pub bmuls : List Row
  pub zeros : List Row
  pub linears : List Definition

-- the four kinds of rows, in tag order
unfoldable pub row_operands : System → List Operand
row_operands p = joined p.ands ++ (joined p.imuls ++ (joined p.bmuls ++ joined p.zeros))

unfoldable pub definition_operands : System → List Operand
definition_operands p = map (λ (d : Definition). d.rhs) p.linears

abbrev pub operands_of : System → List Operand
operands_of p = row_operands p ++ definition_operands p

abbrev pub terms_of : System → List Term
terms_of p = joined (operands_of p)

abbrev pub destinations : List Definition → List ℕ
destinations ds = map (λ (d : Definition). d.dst) ds

abbrev pub defines : List Definition → ℕ → Bool
defines ds w = some_of (eqb w) (destinations ds)

abbrev pub definition_of : List Definition → ℕ → Option Operand
definition_of [] w = none
definition_of (d ∷ ds) w = cond (eqb w d.dst) (some d.rhs) (definition_of ds w)
