-- The stores in which definitions and their uses are found at once: a table by wire, and lists of uses linked by numbers.
--
--   numbered k ds l    the table l with the definitions of the destinations ds, the first of which is counted as k + 1
--   number_in k ds w    what such a table has at the wire w: its definition, counted from k + 1; 0 where it has none
--   told_node n         what a table has for a node
--   use_number          a use in a store: 16 bits of shift, 16 of user, and the place of the next use of the same definition, counted from 1
--   user_at, use_at      the user and the use that a number stands for; next_at, the place of the next one
--   Graph              the first use of each definition, the uses, and how many there are; places are counted from 1, and 0 is none
--   note               the graph with one more use in front of its definition's list
--   note_terms          the same for the terms of one user, the last one first; note_from, for operands; note_all, for a system
--   listed n us h      the uses from the place h on, n of them at most
--   Linked us c        the places of the first c uses fall from one to the next
--
-- Assumes nothing.
use Rattle.std.specs.Prelude.{ℕ, zero, suc, ◌+◌, ◌*◌, ◌/◌, ◌%◌, ◌≤◌, ◌<◌, Bool, true, false, cond, List, [], ◌∷◌, ltb, eqb, length, get_or, set}
use Rattle.operand.specs.Numbers.{Term, Operand}
use Rattle.lower.specs.Model.{System, row_operands, definition_operands}
use Rattle.legraph.specs.declared.Node.{Node}
use Rattle.legraph.specs.declared.Node.TheVariants.{LinDef, Opaque}
use Rattle.legraph.specs.Uses.{User, constraint, definition, Use}

unfoldable pub numbered : ℕ → List ℕ → List ℕ → List ℕ
numbered k [] l = l
numbered k (d ∷ ds) l = set (numbered (suc k) ds l) d (suc k)

unfoldable pub number_in : ℕ → List ℕ → ℕ → ℕ
number_in k [] w = 0
number_in k (d ∷ ds) w = cond (eqb w d) (suc k) (number_in (suc k) ds w)

abbrev pub told_node : Node → ℕ
told_node (LinDef d) = suc d.0
told_node Opaque = 0

abbrev pub use_number : ℕ → ℕ → ℕ → ℕ
use_number user shift next = shift + 65536 * user + 4294967296 * next

abbrev pub user_at : ℕ → User
user_at zero = constraint
user_at (suc e) = definition e

abbrev pub use_at : ℕ → Use
use_at n = record { user = user_at (n / 65536 % 65536); shift = n % 65536 }

abbrev pub next_at : ℕ → ℕ
next_at n = n / 4294967296

pub record Graph : Type 0 where
  pub first : List ℕ
  pub uses : List ℕ
  pub count : ℕ

abbrev pub graph : List ℕ → List ℕ → ℕ → Graph
graph first uses n = record { first = first; uses = uses; count = n }

-- a use that the store has no room for is left out
unfoldable pub push : ℕ → ℕ → ℕ → Graph → Graph
push user shift d g =
    cond (ltb g.count (length g.uses))
    (graph (set g.first d (suc g.count)) (set g.uses g.count (use_number user shift (get_or g.first d 0))) (suc g.count))
    g

-- n is what the table has at the wire
unfoldable pub note_at : ℕ → ℕ → ℕ → Graph → Graph
note_at user shift zero g = g
note_at user shift (suc d) g = push user shift d g

abbrev pub note : List ℕ → ℕ → Term → Graph → Graph
note table user t g = note_at user t.inner (get_or table t.wire 0) g

unfoldable pub note_terms : List ℕ → ℕ → List Term → Graph → Graph
note_terms table user [] g = g
note_terms table user (t ∷ ts) g = note table user t (note_terms table user ts g)

-- a user in a store: 0 for a constraint, and definitions counted from 1
abbrev pub user_number : Bool → ℕ → ℕ
user_number linear k = cond linear (suc k) 0

-- operands of constraints, or right sides of definitions of which the first has the number k
unfoldable pub note_from : List ℕ → Bool → ℕ → List Operand → Graph → Graph
note_from table linear k [] g = g
note_from table linear k (o ∷ os) g = note_terms table (user_number linear k) o (note_from table linear (suc k) os g)

-- all terms of a system
unfoldable pub note_all : List ℕ → System → Graph → Graph
note_all table p g = note_from table false 0 (row_operands p) (note_from table true 0 (definition_operands p) g)

unfoldable pub listed : ℕ → List ℕ → ℕ → List Use
listed zero us h = []
listed (suc n) us zero = []
listed (suc n) us (suc i) = use_at (get_or us i 0) ∷ listed n us (next_at (get_or us i 0))

-- the first c uses: each is followed by one before it, or by none
pub record Linked (us : List ℕ) (c : ℕ) : Type 0 where
  pub inside : c ≤ length us
  pub falls : (i : ℕ) → i < c → next_at (get_or us i 0) ≤ i
