-- What is left of the order that a walk fills is never more than the order. Assumes nothing.
use Prim.Native.Nat.{ℕ, zero, suc, ◌≤◌}
use mathlib.Core.Bool.{Bool, true, false, cond}
use mathlib.Core.List.{List, [], ◌∷◌}
use native.Mathlib.Omega.{arith}
use lib.ListN.{length, get_or}
use lib.Dec.{eqb}
use Rattle.operand.specs.Numbers.{Term, Operand}
use Rattle.legraph.specs.Walked.{Walked, enter, over, opened, closed, circled, visit, walk_from, walk_of, begun}

module _ (m : ℕ) where
  abbrev Low : Walked → Type 0
  Low w = w.left ≤ m

  low_both : (b : Bool) (x y : Walked) → Low x → Low y → Low (cond b x y)
  low_both true x y h k = h
  low_both false x y h k = k

  module _ (g : Walked → ℕ → Walked) (low_g : (w : Walked) (d : ℕ) → Low w → Low (g w d)) where
    low_enter : (w : Walked) (n : ℕ) → Low w → Low (enter g w n)
    unfolding enter
    low_enter w zero l = l
    low_enter w (suc d) l = low_both w.circle w _ l (low_both (eqb (get_or w.marks d 0) 0) (g w d) _ (low_g w d l) (low_both (eqb (get_or w.marks d 0) 1) (circled w) w l l))

    low_over : (table : List ℕ) (ts : List Term) (w : Walked) → Low w → Low (over g table ts w)
    unfolding over
    low_over table [] w l = l
    low_over table (t ∷ ts) w l = low_over table ts (enter g w (get_or table t.wire 0)) (low_enter w (get_or table t.wire 0) l)

  low_closed : (w : Walked) (d : ℕ) → Low w → Low (closed w d)
  unfolding closed
  low_closed w d l = low_both w.circle w _ l (omega arith)

  module _ (rhs : ℕ → Operand) (table : List ℕ) where
    low_visit : (f : ℕ) (w : Walked) (d : ℕ) → Low w → Low (visit f rhs table w d)
    unfolding visit
    low_visit zero w d l = l
    low_visit (suc f) w d l =
        low_closed (over (visit f rhs table) table (rhs d) (opened w d)) d (low_over (visit f rhs table) (low_visit f) table (rhs d) (opened w d) l)

    low_from : (f k n : ℕ) (w : Walked) → Low w → Low (walk_from f rhs table k n w)
    unfolding walk_from
    low_from f k zero w l = l
    low_from f k (suc n) w l = low_from f (suc k) n (enter (visit f rhs table) w (suc k)) (low_enter (visit f rhs table) (low_visit f) w (suc k) l)

pub left_low : (rhs : ℕ → Operand) (table : List ℕ) (n : ℕ) (marks order : List ℕ) → (walk_of rhs table n marks order).left ≤ length order
unfolding walk_of
left_low rhs table n marks order = low_from (length order) rhs table (length marks) 0 n (begun marks order) (omega arith)
