-- A constraint system as it stands in lent stores, and the system that it is.
--
--   Stores           two term stores, the operand numbers of the four kinds of rows, and the definitions: destinations and right sides
--   chunks k n hs    n rows of k operand numbers each
--   system_of z s     the system: so many wires, rows and definitions as z says
--   stores_of s      the stores of a system that is lent; system_in s, the system that it is
--   handles_in z s    the numbers of all its operands, in the writer's order
--   Placed z s       every list is as long as its count asks, and every operand ends within its store: what is not so is 3
--
-- Assumes nothing.
use Rattle.std.specs.Prelude.{ℕ, zero, suc, ◌*◌, ◌≤◌, List, [], ◌∷◌, ◌++◌, map, length, take, drop}
use Rattle.operand.specs.Numbers.{Operand, operand_at, operand_of, Within}
use Rattle.lower.specs.declared.Sizes.{Sizes}
use Rattle.lower.specs.declared.LentSystem.{LentSystem}
use Rattle.lower.specs.Lists.{All}
use Rattle.lower.specs.Model.{Row, Definition, System}

pub record Stores : Type 0 where
  pub old : List ℕ
  pub new : List ℕ
  pub ands : List ℕ
  pub imuls : List ℕ
  pub bmuls : List ℕ
  pub zeros : List ℕ
  pub dsts : List ℕ
  pub rhss : List ℕ

abbrev pub stores : List ℕ → List ℕ → List ℕ → List ℕ → List ℕ → List ℕ → List ℕ → List ℕ → Stores
stores old new ands imuls bmuls zeros dsts rhss =
    record { old = old; new = new; ands = ands; imuls = imuls; bmuls = bmuls; zeros = zeros; dsts = dsts; rhss = rhss }

abbrev pub chunks : ℕ → ℕ → List ℕ → List (List ℕ)
chunks k zero hs = []
chunks k (suc n) hs = take k hs ∷ chunks k n (drop k hs)

abbrev pub rows_of : (ℕ → Operand) → ℕ → ℕ → List ℕ → List Row
rows_of f k n hs = map (map f) (chunks k n hs)

abbrev pub definitions_of : (ℕ → Operand) → List ℕ → List ℕ → List Definition
definitions_of f [] hs = []
definitions_of f (d ∷ ds) [] = []
definitions_of f (d ∷ ds) (h ∷ hs) = record { dst = d; rhs = f h } ∷ definitions_of f ds hs

unfoldable pub system_of : Sizes → Stores → System
system_of z s =
    record {
      wires = z.wires;
      ands = rows_of (operand_of s.old s.new) 3 z.ands s.ands;
      imuls = rows_of (operand_of s.old s.new) 4 z.imuls s.imuls;
      bmuls = rows_of (operand_of s.old s.new) 6 z.bmuls s.bmuls;
      zeros = rows_of (operand_of s.old s.new) 1 z.zeros s.zeros;
      linears = definitions_of (operand_of s.old s.new) (take z.linears s.dsts) (take z.linears s.rhss);
    }

abbrev pub stores_of : LentSystem → Stores
stores_of s = stores s.stores.old.now s.stores.new.now s.ands.now s.imuls.now s.bmuls.now s.zeros.now s.dsts.now s.rhss.now

abbrev pub system_in : LentSystem → System
system_in s = system_of s.sizes (stores_of s)

unfoldable pub row_handles : Sizes → List ℕ → List ℕ → List ℕ → List ℕ → List ℕ
row_handles z ands imuls bmuls zeros =
    take (3 * z.ands) ands ++ (take (4 * z.imuls) imuls ++ (take (6 * z.bmuls) bmuls ++ take z.zeros zeros))

abbrev pub handles_of : Sizes → List ℕ → List ℕ → List ℕ → List ℕ → List ℕ → List ℕ
handles_of z ands imuls bmuls zeros rhss = row_handles z ands imuls bmuls zeros ++ take z.linears rhss

abbrev pub handles_in : Sizes → Stores → List ℕ
handles_in z s = handles_of z s.ands s.imuls s.bmuls s.zeros s.rhss

-- the operand of number h ends within its store
abbrev pub Stands : List ℕ → List ℕ → ℕ → Type 0
Stands old new h = Within old new (operand_at h)

-- "an operand past the end of its store is 3"
pub record Placed (z : Sizes) (s : Stores) : Type 0 where
  pub ands_there : 3 * z.ands ≤ length s.ands
  pub imuls_there : 4 * z.imuls ≤ length s.imuls
  pub bmuls_there : 6 * z.bmuls ≤ length s.bmuls
  pub zeros_there : z.zeros ≤ length s.zeros
  pub dsts_there : z.linears ≤ length s.dsts
  pub rhss_there : z.linears ≤ length s.rhss
  pub operands_there : All (Stands s.old s.new) (handles_in z s)
