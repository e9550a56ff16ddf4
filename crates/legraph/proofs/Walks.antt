-- Laws of the walk, one step at a time. Assumes nothing.
use mathlib.Core.Path.{◌≡◌, refl, sym, ap, ◌∙◌}
use Prim.Native.Nat.{ℕ, zero, suc, ◌+◌, ◌-◌, ◌≤◌, ◌<◌}
use mathlib.Core.List.{List, [], ◌∷◌, map}
use mathlib.Core.Bool.{Bool, true, false, cond}
use native.Mathlib.Omega.{arith}
use lib.ListN.{length, get_or, set, drop}
use lib.Seq.{drop-length}
use lib.Dec.{eqb}
use borrow.Author.Tests.{eq-eqb, ne_eqb, eqb-true, eqb-false}
use Rattle.operand.specs.Numbers.{Operand, term_of, operand_at, terms_at, operand_of}
use Rattle.lower.proofs.Firsts.{drop_step}
use Rattle.legraph.specs.Walked.{Walked, circled, enter, over, opened, closed, visit, walk_from, unmarked, rhs_in}

-- a mark that is no 0 leaves no more unmarked
pub marked : (xs : List ℕ) (i v : ℕ) → unmarked (set xs i (suc v)) ≤ unmarked xs
unfolding unmarked
marked [] i v = omega arith
marked (zero ∷ xs) zero v = omega arith
marked (suc x ∷ xs) zero v = omega arith
marked (zero ∷ xs) (suc i) v = omega (arith, marked xs i v)
marked (suc x ∷ xs) (suc i) v = marked xs i v

-- a 0 that is marked is one less
pub fewer : (xs : List ℕ) (i v : ℕ) → i < length xs → get_or xs i 0 ≡ 0 → unmarked (set xs i (suc v)) + 1 ≡ unmarked xs
unfolding unmarked
fewer [] i v h e = absurd (omega arith)
fewer (zero ∷ xs) zero v h e = omega arith
fewer (suc x ∷ xs) zero v h e = absurd (omega arith)
fewer (zero ∷ xs) (suc i) v h e = omega (arith, fewer xs i v (omega arith) e)
fewer (suc x ∷ xs) (suc i) v h e = fewer xs i v (omega arith) e

-- a mark that is no 0 can be changed
pub remarked : (xs : List ℕ) (i v : ℕ) → (get_or xs i 0 ≡ 0 → ⊥) → unmarked (set xs i (suc v)) ≡ unmarked xs
unfolding unmarked
remarked [] i v e = refl
remarked (zero ∷ xs) zero v e = absurd (e refl)
remarked (suc x ∷ xs) zero v e = refl
remarked (zero ∷ xs) (suc i) v e = ap suc (remarked xs i v e)
remarked (suc x ∷ xs) (suc i) v e = remarked xs i v e

module _ (g : Walked → ℕ → Walked) (w : Walked) (n : ℕ) where
  pub enter-none : n ≡ 0 → w ≡ enter g w n
  unfolding enter
  enter-none e = rw e

  module _ (d : ℕ) (e : n ≡ suc d) where
    pub enter_circle : w.circle ≡ true → w ≡ enter g w n
    unfolding enter
    enter_circle h = rw (e, h)

    module _ (live : w.circle ≡ false) where
      pub enter_new : get_or w.marks d 0 ≡ 0 → g w d ≡ enter g w n
      unfolding enter
      enter_new h = rw (e, live, eq-eqb _ _ h)

      module _ (met : get_or w.marks d 0 ≡ 0 → ⊥) where
        pub enter_open : get_or w.marks d 0 ≡ 1 → circled w ≡ enter g w n
        unfolding enter
        enter_open h = rw (e, live, ne_eqb _ _ met, eq-eqb _ _ h)

        pub enter-done : (get_or w.marks d 0 ≡ 1 → ⊥) → w ≡ enter g w n
        unfolding enter
        enter-done h = rw (e, live, ne_eqb _ _ met, ne_eqb _ _ h)

      -- by the mark, where it is no 0: an open one is a circle
      pub enter_met : (b : Bool) → (get_or w.marks d 0 ≡ 0 → ⊥) → b ≡ eqb (get_or w.marks d 0) 1
          → record { marks = w.marks; order = w.order; left = w.left; circle = b } ≡ enter g w n
      enter_met b met h = go b (sym h)
        where
          go : (b : Bool) → eqb (get_or w.marks d 0) 1 ≡ b → record { marks = w.marks; order = w.order; left = w.left; circle = b } ≡ enter g w n
          go true q = enter_open met (eqb-true _ _ q)
          go false q = ap (λ (c : Bool). record { marks = w.marks; order = w.order; left = w.left; circle = c }) (sym live) ∙ enter-done met (eqb-false _ _ q)

pub closed_circle : (w : Walked) (d : ℕ) → w.circle ≡ true → w ≡ closed w d
unfolding closed
closed_circle w d e = rw e

pub closed-done : (w : Walked) (d : ℕ) → w.circle ≡ false
    → record { marks = set w.marks d 2; order = set w.order (w.left - 1) d; left = w.left - 1; circle = false } ≡ closed w d
unfolding closed
closed-done w d e = rw e

pub over_step : (g : Walked → ℕ → Walked) (table ts : List ℕ) (k : ℕ) (w : Walked) → k < length ts
    → over g table (map term_of (drop k ts)) w ≡ over g table (map term_of (drop (k + 1) ts)) (enter g w (get_or table (term_of (get_or ts k 0)).wire 0))
unfolding over
over_step g table ts k w h = rw (drop_step ts k 0 h)

pub over_end : (g : Walked → ℕ → Walked) (table ts : List ℕ) (k : ℕ) (w : Walked) → k ≡ length ts → over g table (map term_of (drop k ts)) w ≡ w
unfolding over
over_end g table ts k w e = rw (e, drop-length {A = ℕ} ts)

-- the visit's end: what holds of the loop at every depth that reaches
pub ended : (rhs : ℕ → Operand) (table : List ℕ) (w now : Walked) (d : ℕ) → d < length w.marks → get_or w.marks d 0 ≡ 0
    → ((g : ℕ) → unmarked (set w.marks d 1) ≤ g → now ≡ over (visit g rhs table) table (rhs d) (opened w d))
    → (f : ℕ) → unmarked w.marks ≤ f → closed now d ≡ visit f rhs table w d
unfolding visit
ended rhs table w now d lt z all zero le = absurd (omega (arith, fewer w.marks d 0 lt z))
ended rhs table w now d lt z all (suc f) le = ap (λ (x : Walked). closed x d) (all f (omega (arith, fewer w.marks d 0 lt z)))

pub closed-unmarked : (w : Walked) (d : ℕ) → unmarked (closed w d).marks ≤ unmarked w.marks
unfolding closed
closed-unmarked w d = go w.circle refl
  where
    go : (b : Bool) → w.circle ≡ b → unmarked (cond b w (record { marks = set w.marks d 2; order = set w.order (w.left - 1) d; left = w.left - 1; circle = false })).marks ≤ unmarked w.marks
    go true e = omega arith
    go false e = marked w.marks d 1

pub rhs_terms : (old new rhss ts : List ℕ) (d : ℕ) → ts ≡ terms_at old new (operand_at (get_or rhss d 0)) → map term_of ts ≡ rhs_in old new rhss d
unfolding operand_of
rhs_terms old new rhss ts d e = ap (map term_of) e

pub unmarked-length : (xs : List ℕ) → unmarked xs ≤ length xs
unfolding unmarked
unmarked-length [] = omega arith
unmarked-length (zero ∷ xs) = omega (arith, unmarked-length xs)
unmarked-length (suc x ∷ xs) = omega (arith, unmarked-length xs)

pub walk_step : (f : ℕ) (rhs : ℕ → Operand) (table : List ℕ) (k n : ℕ) (w : Walked) → k < n
    → walk_from f rhs table k (n - k) w ≡ walk_from f rhs table (k + 1) (n - (k + 1)) (enter (visit f rhs table) w (suc k))
unfolding walk_from
walk_step f rhs table k n w h =
    let e : n - k ≡ suc (n - (k + 1)) = omega arith in
    let g : suc k ≡ k + 1 = omega arith in
    rw e (ap (λ (j : ℕ). walk_from f rhs table j (n - (k + 1)) (enter (visit f rhs table) w (suc k))) g)

pub walk_end : (f : ℕ) (rhs : ℕ → Operand) (table : List ℕ) (k n : ℕ) (w : Walked) → n ≤ k → walk_from f rhs table k (n - k) w ≡ w
unfolding walk_from
walk_end f rhs table k n w h = let e : n - k ≡ 0 = omega arith in rw e
