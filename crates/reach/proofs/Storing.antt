-- The steps of a program that makes the masks of wires in a store. Assumes nothing.
use mathlib.Core.Path.{◌≡◌, refl, sym, ap, ◌∙◌, subst}
use Prim.Native.Nat.{ℕ, ◌+◌, ◌≤◌, ◌<◌}
use native.Mathlib.Omega.{arith}
use mathlib.Core.List.{List, [], ◌∷◌, ◌++◌, map}
use lib.ListN.{length, get_or, set, drop, drop_of_length-le}
use Rattle.std.specs.Int.Bits.{bit_or, or_zero_r}
use borrow.Author.Tests.{eq-eqb, ne_eqb}
use Rattle.operand.specs.Numbers.{Term, term_of, operand_at, terms_at}
use Rattle.lower.specs.Lists.{All, done, more}
use Rattle.lower.proofs.Firsts.{drop_step}
use Rattle.lower.proofs.Alls.{all_unmap}
use Rattle.legraph.proofs.Walks.{rhs_terms}
use Rattle.commit_set.proofs.Joining.{or_assoc}
use Rattle.reach.specs.Alive.{or_all, through}
use Rattle.reach.specs.Steps.{Held, rhs_at, dst_at, mask_at, alive_step, alive_from, Usable}

-- ---- the mask of an operand

module _ (f : ℕ → ℕ) (l : List ℕ) (i all : ℕ) where
  pub or_step : i < length l → bit_or (bit_or all (f (get_or l i 0))) (or_all f (drop (i + 1) l)) ≡ bit_or all (or_all f (drop i l))
  or_step h = or_assoc all (f (get_or l i 0)) (or_all f (drop (i + 1) l)) ∙ sym (ap (λ (r : List ℕ). bit_or all (or_all f r)) (drop_step l i 0 h))

  pub or_end : length l ≤ i → bit_or all (or_all f (drop i l)) ≡ all
  or_end h = rw (drop_of_length-le l h) (or_zero_r all)

or_map : (f : Term → ℕ) (ts : List ℕ) → or_all (λ (t : ℕ). f (term_of t)) ts ≡ or_all f (map term_of ts)
or_map f [] = refl
or_map f (t ∷ ts) = ap (bit_or (f (term_of t))) (or_map f ts)

-- ---- one definition

pub all_one : {P : ℕ → Type 0} {x : ℕ} → All P (x ∷ []) → P x
all_one (more p done) = p

module _ (h : Held) (d : ℕ) where
  pub terms_usable : (n : ℕ) (ts : List ℕ) → ts ≡ terms_at h.old h.new (operand_at (get_or h.rhss d 0)) → All (Usable n) (rhs_at h d) → All (λ (t : ℕ). Usable n (term_of t)) ts
  terms_usable n ts e a = all_unmap (Usable n) term_of ts (subst (All (Usable n)) (sym (rhs_terms h.old h.new h.rhss ts d e)) a)

  pub step_committed : (l : List ℕ) → get_or h.decisions d 0 ≡ 0 → l ≡ alive_step h d l
  unfolding alive_step
  step_committed l e = rw (eq-eqb (get_or h.decisions d 0) 0 e)

  pub step_open : (l ts : List ℕ) (m : ℕ) → (get_or h.decisions d 0 ≡ 0 → ⊥) → ts ≡ terms_at h.old h.new (operand_at (get_or h.rhss d 0))
      → m ≡ or_all (λ (t : ℕ). through (mask_at l) (term_of t)) ts → set l (dst_at h d) m ≡ alive_step h d l
  unfolding alive_step
  step_open l ts m n e g =
      rw (ne_eqb (get_or h.decisions d 0) 0 n)
      (ap (set l (dst_at h d)) (g ∙ or_map (through (mask_at l)) ts ∙ ap (or_all (through (mask_at l))) (rhs_terms h.old h.new h.rhss ts d e)))

-- ---- all of them

module _ (h : Held) (d : ℕ) (l : List ℕ) where
  pub from_last : (ds : List ℕ) → alive_from h (ds ++ d ∷ []) l ≡ alive_from h ds (alive_step h d l)
  unfolding alive_from
  from_last [] = refl
  from_last (e ∷ ds) = ap (alive_step h e) (from_last ds)

pub from_none : (h : Held) (ds l : List ℕ) → length ds ≡ 0 → alive_from h ds l ≡ l
unfolding alive_from
from_none h [] l e = refl
from_none h (d ∷ ds) l e = absurd (omega arith)
