-- The patched lists (01, "The patched lists"), for a set of committed wires.
--
--   commit_set p st w     the wire w is defined, and its definition is decided to commit
--   inlined              what is put in the place of a wire: its definition, where it has one that is not committed
--   depth                the number of definitions: no chain of them is longer
--   expand_term           a term expanded; expand_operand, an operand
--   met_term, met_operand  the wires whose definitions are met on the way
--   rebuilt              a constraint names a defined wire
--   commits              the committed definitions, by rising wire number
--   rebuilds             the operands that are expanded, in the order of the rebuilding
--   written              the terms that rebuilding writes, in its order; terms_written, how many
--   all_met               the wires whose definitions some rebuilding meets
--   is_gone, is_stranded   an uncommitted definition is met, or never; gone, stranded: those definitions; stays, by its wire
--   patch_rows            a list of constraints after patching; patched, the system
--   live                 the patched system, its stranded definitions set aside
--   kept                 the wires that need a stored value
--   counts_of             the nine counts of the report
--   NeverOver            while an operand is rebuilt no fold is over the budget, and every shift is valid
--
-- Assumes nothing.
use Rattle.std.specs.Prelude.{ℕ, zero, suc, ◌-◌, Bool, false, cond, not, ◌&&◌, List, [], ◌∷◌, ◌++◌, map, eqb, length}
use Rattle.std.proofs.Math.Option.{Option, none, some}
use Rattle.operand.specs.Numbers.{Term, Operand}
use Rattle.lower.specs.Lists.{All, some_of, keep, joined}
use Rattle.lower.specs.Model.{Row, Definition, System, destinations, defines, definition_of}
use Rattle.legraph.specs.Tables.{number_in}
use Rattle.commit_set.specs.declared.Decision.{Decision}
use Rattle.commit_set.specs.Paths.{committed}
use Rattle.patch.specs.Lists.{gather, up_to}
use Rattle.patch.specs.Expansion.{expand, met, Fits}

-- n is a definition, counted from 1; 0 is none
abbrev pub committed_at : (ℕ → Decision) → ℕ → Bool
committed_at st zero = false
committed_at st (suc d) = committed (st d)

unfoldable pub commit_set : System → (ℕ → Decision) → ℕ → Bool
commit_set p st w = committed_at st (number_in 0 (destinations p.linears) w)

-- the definition of the wire w, told by its right side
abbrev pub entry : ℕ → Option Operand → List Definition
entry w none = []
entry w (some rhs) = record { dst = w; rhs = rhs } ∷ []

abbrev pub commit_at : (ℕ → Bool) → List Definition → ℕ → List Definition
commit_at c ds w = cond (c w) (entry w (definition_of ds w)) []

abbrev pub rhss_of : List Definition → List Operand
rhss_of ds = map (λ (d : Definition). d.rhs) ds

-- "Every non-linear constraint that names a defined wire is rebuilt"
unfoldable pub rebuilt : List Definition → Row → Bool
rebuilt ds r = some_of (some_of (λ (t : Term). defines ds t.wire)) r

-- p is the system, c the set of committed wires
module _ (p : System) (c : ℕ → Bool) where
  -- "until a committed or undefined wire stands"
  unfoldable pub inlined : ℕ → Option Operand
  inlined w = cond (c w) none (definition_of p.linears w)

  unfoldable pub depth : ℕ
  depth = length p.linears

  -- "a term through its definition's operand"
  unfoldable pub expand_term : Term → List Term
  expand_term = expand inlined depth

  unfoldable pub met_term : Term → List ℕ
  met_term = met inlined depth

  -- "an operand is expanded through its terms"
  unfoldable pub expand_operand : Operand → Operand
  expand_operand o = gather expand_term o

  unfoldable pub met_operand : Operand → List ℕ
  met_operand o = gather met_term o

  abbrev pub FitsOperand : Operand → Type 0
  FitsOperand = All (Fits inlined depth)

  -- "then every committed definition"; "the committed set is listed by rising wire number"
  unfoldable pub commits : List Definition
  commits = gather (commit_at c p.linears) (up_to p.wires)

  -- "Rebuilding takes a constraint's operands in file order"
  unfoldable pub row_rebuilds : List Row → List Operand
  row_rebuilds rs = joined (keep (rebuilt p.linears) rs)

  -- "in `ConstraintRef` order, then every committed definition"
  unfoldable pub rebuilds : List Operand
  rebuilds =
      row_rebuilds p.ands ++ (row_rebuilds p.imuls ++ (row_rebuilds p.bmuls ++ (row_rebuilds p.zeros ++ rhss_of commits)))

  -- every operand of what is rebuilt is written anew, also one that names no definition
  unfoldable pub written : List Term
  written = gather expand_operand rebuilds

  unfoldable pub terms_written : ℕ
  terms_written = length written

  unfoldable pub all_met : List ℕ
  all_met = gather met_operand rebuilds

  -- "An uncommitted definition met is *gone*"
  unfoldable pub is_gone : Definition → Bool
  is_gone d = not (c d.dst) && some_of (eqb d.dst) all_met

  -- "one never met is *stranded*"
  unfoldable pub is_stranded : Definition → Bool
  is_stranded d = not (c d.dst) && not (some_of (eqb d.dst) all_met)

  -- the definition of a wire is neither rebuilt nor gone
  abbrev pub stays : ℕ → Bool
  stays w = not (c w) && not (some_of (eqb w) all_met)

  unfoldable pub gone : List Definition
  gone = keep is_gone p.linears

  -- ".. and stays unchanged"
  unfoldable pub stranded : List Definition
  stranded = keep is_stranded p.linears

  -- "Each list: what was neither rebuilt nor gone, in old order, then what was rebuilt"
  unfoldable pub patch_rows : List Row → List Row
  patch_rows rs = keep (λ (r : Row). not (rebuilt p.linears r)) rs ++ map (map expand_operand) (keep (rebuilt p.linears) rs)

  unfoldable pub rebuild : Definition → Definition
  rebuild d = record { dst = d.dst; rhs = expand_operand d.rhs }

  unfoldable pub patched : System
  patched =
      record {
        wires = p.wires;
        ands = patch_rows p.ands;
        imuls = patch_rows p.imuls;
        bmuls = patch_rows p.bmuls;
        zeros = patch_rows p.zeros;
        linears = stranded ++ map rebuild commits;
      }

  unfoldable pub live : System
  live =
      record {
        wires = p.wires;
        ands = patch_rows p.ands;
        imuls = patch_rows p.imuls;
        bmuls = patch_rows p.bmuls;
        zeros = patch_rows p.zeros;
        linears = map rebuild commits;
      }

  -- "the wire count less the uncommitted definitions"
  unfoldable pub kept : ℕ
  kept = p.wires - length (keep (λ (d : Definition). not (c d.dst)) p.linears)

  -- "And, Imul, Bmul, Zero, Linear after; committed; stranded; terms written; kept"
  unfoldable pub counts_of : List ℕ
  counts_of =
      length patched.ands
      ∷ length patched.imuls
      ∷ length patched.bmuls
      ∷ length patched.zeros
      ∷ length patched.linears
      ∷ length commits
      ∷ length stranded
      ∷ terms_written
      ∷ kept
      ∷ []

  -- "That OverBudget never occurs while patching an accepted system is proved"
  abbrev pub NeverOver : Type 0
  NeverOver = All FitsOperand rebuilds
