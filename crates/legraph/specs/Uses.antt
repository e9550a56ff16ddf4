-- Definitions and their uses (01, "The decision").
--
--   rhs_of, dst_of     right side and destination of the definition of a number
--   User             where a use stands: in an And, Imul, Bmul or Zero, or in the definition of a number
--   Use              a user, and the number of the shift that it puts on the wire
--   uses_in u w ts    the uses of the wire w among the terms of one user
--   uses_of p w       all uses of w, in the writer's order
--   names p e d      the definition e has a term that names the wire of the definition d
--
-- Assumes nothing.
use Rattle.std.specs.Prelude.{ℕ, suc, Bool, cond, List, [], ◌∷◌, ◌++◌, eqb, get_or}
use Rattle.operand.specs.Numbers.{Term, Operand}
use Rattle.lower.specs.Lists.{some_of, joined}
use Rattle.lower.specs.Model.{Definition, System, row_operands}

abbrev pub no_definition : Definition
no_definition = record { dst = 0; rhs = [] }

abbrev pub rhs_of : System → ℕ → Operand
rhs_of p d = (get_or p.linears d no_definition).rhs

abbrev pub dst_of : System → ℕ → ℕ
dst_of p d = (get_or p.linears d no_definition).dst

pub data User : Type 0 where
  constraint : User
  definition : ℕ → User

pub record Use : Type 0 where
  pub user : User
  pub shift : ℕ

abbrev pub use_by : User → Term → Use
use_by u t = record { user = u; shift = t.inner }

-- "A use is one term naming a defined wire .. equal terms count each"
unfoldable pub uses_in : User → ℕ → List Term → List Use
uses_in u w [] = []
uses_in u w (t ∷ ts) = cond (eqb t.wire w) (use_by u t ∷ uses_in u w ts) (uses_in u w ts)

-- in the definitions, of which the first has the number k
unfoldable pub uses_from : ℕ → ℕ → List Definition → List Use
uses_from k w [] = []
uses_from k w (d ∷ ds) = uses_in (definition k) w d.rhs ++ uses_from (suc k) w ds

-- ".. in a definition or in another constraint"
unfoldable pub uses_of : System → ℕ → List Use
uses_of p w = uses_in constraint w (joined (row_operands p)) ++ uses_from 0 w p.linears

abbrev pub names : System → ℕ → ℕ → Bool
names p e d = some_of (λ (t : Term). eqb t.wire (dst_of p d)) (rhs_of p e)
