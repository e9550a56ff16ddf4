-- Orders of definitions, and circles (01, "a definition reaches itself"), by the table of definitions.
--
--   Link d e         some term of the definition d names the definition e
--   Leads d e        d names e, or a definition that leads to e
--   Circle           some definition leads to itself
--   Posted ds        each definition stands once, before all that it names
--
-- Assumes nothing.
use Rattle.std.specs.Prelude.{◌≡◌, ℕ, suc, get_or}
use mathlib.Core.List.{List, [], ◌∷◌, Memᴰ}
use Rattle.operand.specs.Numbers.{Term, Operand}

abbrev pub Link : (ℕ → Operand) → List ℕ → ℕ → ℕ → Type 0
Link rhs table d e = (t : Term) × Memᴰ t (rhs d) × (get_or table t.wire 0 ≡ suc e)

pub data Leads (rhs : ℕ → Operand) (table : List ℕ) : ℕ → ℕ → Type 0 where
  directly : {d e : ℕ} → Link rhs table d e → Leads rhs table d e
  onward : {d e f : ℕ} → Leads rhs table d e → Link rhs table e f → Leads rhs table d f

abbrev pub Circle : (ℕ → Operand) → List ℕ → Type 0
Circle rhs table = (d : ℕ) × Leads rhs table d d

pub data Posted (rhs : ℕ → Operand) (table : List ℕ) : List ℕ → Type 0 where
  done : Posted rhs table []
  more : {d : ℕ} {ds : List ℕ} → (Memᴰ d ds → ⊥) → ((e : ℕ) → Link rhs table d e → Memᴰ e ds) → Posted rhs table ds → Posted rhs table (d ∷ ds)
