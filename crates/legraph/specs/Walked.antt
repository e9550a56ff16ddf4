-- The walk over the definitions (01, "a post-order walk of its own over the definitions, which also finds circles").
--
--   Walked            marks by definition, 0 not met, 1 open, 2 done; the order, filled from its end, and how much of it is left; whether a
--                     circle was met
--   enter             what a node leads to: a definition that is not met is visited, an open one is a circle
--   over              the nodes of an operand's terms, one after the other
--   opened, closed    a definition begins; it is done, and stands in the order before those that it names
--   visit f           the visit of a definition that is not met, f deep at most
--   walk_from f k n    the definitions k, k + 1, .., n of them
--   begun             before the walk; walk_of, after it: n definitions, from marks that are all 0
--   unmarked          how many definitions are not met
--   order_of           the definitions that are done, the last one first
--
-- Assumes nothing.
use Rattle.std.specs.Prelude.{◌≡◌, ℕ, zero, suc, ◌-◌, ◌<◌, List, [], ◌∷◌, Bool, true, false, cond, length, get_or, set, drop, eqb}
use Rattle.operand.specs.Numbers.{Term, Operand, operand_of}
use Rattle.lower.specs.Stores.{Stands}
use Rattle.legraph.specs.declared.Walk.{Walk}

pub record Walked : Type 0 where
  pub marks : List ℕ
  pub order : List ℕ
  pub left : ℕ
  pub circle : Bool

abbrev pub walked : List ℕ → List ℕ → Walk → Walked
walked m o c = record { marks = m; order = o; left = c.left; circle = c.circle }

abbrev pub circled : Walked → Walked
circled w = record { marks = w.marks; order = w.order; left = w.left; circle = true }

-- n is the node: 0 where the wire is not defined, or its definition, counted from 1
unfoldable pub enter : (Walked → ℕ → Walked) → Walked → ℕ → Walked
enter g w zero = w
enter g w (suc d) =
    cond w.circle w
    (cond (eqb (get_or w.marks d 0) 0) (g w d)
    (cond (eqb (get_or w.marks d 0) 1) (circled w)
    w))

unfoldable pub over : (Walked → ℕ → Walked) → List ℕ → List Term → Walked → Walked
over g table [] w = w
over g table (t ∷ ts) w = over g table ts (enter g w (get_or table t.wire 0))

abbrev pub opened : Walked → ℕ → Walked
opened w d = record { marks = set w.marks d 1; order = w.order; left = w.left; circle = w.circle }

unfoldable pub closed : Walked → ℕ → Walked
closed w d =
    cond w.circle w
    (record { marks = set w.marks d 2; order = set w.order (w.left - 1) d; left = w.left - 1; circle = false })

unfoldable pub visit : ℕ → (ℕ → Operand) → List ℕ → Walked → ℕ → Walked
visit zero rhs table w d = w
visit (suc f) rhs table w d = closed (over (visit f rhs table) table (rhs d) (opened w d)) d

unfoldable pub walk_from : ℕ → (ℕ → Operand) → List ℕ → ℕ → ℕ → Walked → Walked
walk_from f rhs table k zero w = w
walk_from f rhs table k (suc n) w = walk_from f rhs table (suc k) n (enter (visit f rhs table) w (suc k))

abbrev pub begun : List ℕ → List ℕ → Walked
begun marks order = record { marks = marks; order = order; left = length order; circle = false }

unfoldable pub walk_of : (ℕ → Operand) → List ℕ → ℕ → List ℕ → List ℕ → Walked
walk_of rhs table n marks order = walk_from (length marks) rhs table 0 n (begun marks order)

unfoldable pub unmarked : List ℕ → ℕ
unmarked [] = 0
unmarked (zero ∷ xs) = suc (unmarked xs)
unmarked (suc x ∷ xs) = unmarked xs

abbrev pub order_of : Walked → List ℕ
order_of w = drop w.left w.order

-- the right sides that stand in the stores
abbrev pub rhs_in : List ℕ → List ℕ → List ℕ → ℕ → Operand
rhs_in old new rhss d = operand_of old new (get_or rhss d 0)

-- the definition d has its mark and its right side
abbrev pub There : List ℕ → List ℕ → List ℕ → ℕ → ℕ → Type 0
There old new rhss m d = (d < m) × (d < length rhss) × Stands old new (get_or rhss d 0)

-- every definition that a node leads to is there
abbrev pub Sound : List ℕ → List ℕ → List ℕ → List ℕ → ℕ → Type 0
Sound old new rhss table m = (w d : ℕ) → get_or table w 0 ≡ suc d → There old new rhss m d
