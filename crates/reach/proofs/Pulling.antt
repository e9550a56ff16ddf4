-- The steps of a program that takes in the bits of wires in a store. Assumes nothing.
use mathlib.Core.Path.{◌≡◌, sym, ap, ap₂, subst}
use Prim.Native.Nat.{ℕ, ◌+◌, ◌≤◌, ◌<◌}
use mathlib.Core.Bool.{cond}
use mathlib.Core.List.{List, map}
use lib.Dec.{eqb}
use lib.ListN.{length, get_or, set, drop, drop_of_length-le}
use lib.Bits.{bit_or}
use Rattle.shift.specs.Shifts.{shift_at}
use Rattle.operand.specs.Numbers.{Operand, term_of, operand_at, terms_at, operand_of}
use Rattle.alive.specs.Masks.{ones, pulled}
use Rattle.lower.specs.Lists.{All}
use Rattle.lower.proofs.Firsts.{drop_step}
use Rattle.lower.proofs.Alls.{all_unmap}
use Rattle.reach.specs.Steps.{Held, dst_at, pull_term, pull_terms, pull_operands, reach_step, reach_from, Usable}

pub pull_is : (t m w p : ℕ) (l : List ℕ) → w ≡ (term_of t).wire → p ≡ pulled (shift_at (term_of t).inner) m → set l w (bit_or (get_or l w 0) p) ≡ pull_term m (term_of t) l
unfolding pull_term
pull_is t m w p l e f = ap₂ (λ (v q : ℕ). set l v (bit_or (get_or l v 0) q)) e f

module _ (m : ℕ) (ts l : List ℕ) (i : ℕ) where
  pub pull_go : i < length ts → pull_terms m (map term_of (drop i ts)) l ≡ pull_terms m (map term_of (drop (i + 1) ts)) (pull_term m (term_of (get_or ts i 0)) l)
  unfolding pull_terms
  pull_go h = ap (λ (x : List ℕ). pull_terms m (map term_of x) l) (drop_step ts i 0 h)

  pub pull_end : length ts ≤ i → pull_terms m (map term_of (drop i ts)) l ≡ l
  unfolding pull_terms
  pull_end h = ap (λ (x : List ℕ). pull_terms m (map term_of x) l) (drop_of_length-le ts h)

-- ---- operands

module _ (old new : List ℕ) (h : ℕ) (ts : List ℕ) (e : ts ≡ terms_at old new (operand_at h)) where
  pub operand_terms : map term_of ts ≡ operand_of old new h
  unfolding operand_of
  operand_terms = ap (map term_of) e

  pub operand_usable : (n : ℕ) → All (Usable n) (operand_of old new h) → All (λ (t : ℕ). Usable n (term_of t)) ts
  operand_usable n a = all_unmap (Usable n) term_of ts (subst (All (Usable n)) (sym operand_terms) a)

module _ (old new hs l : List ℕ) (i : ℕ) where
  pub operands_go : i < length hs → pull_operands old new (drop i hs) l ≡ pull_operands old new (drop (i + 1) hs) (pull_terms ones (operand_of old new (get_or hs i 0)) l)
  unfolding pull_operands
  operands_go h = ap (λ (x : List ℕ). pull_operands old new x l) (drop_step hs i 0 h)

  pub operands_end : length hs ≤ i → pull_operands old new (drop i hs) l ≡ l
  unfolding pull_operands
  operands_end h = ap (λ (x : List ℕ). pull_operands old new x l) (drop_of_length-le hs h)

-- ---- definitions

module _ (h : Held) where
  pub reach_is : (d m : ℕ) (ts l : List ℕ) → m ≡ cond (eqb (get_or h.decisions d 0) 0) ones (get_or l (dst_at h d) 0) → ts ≡ terms_at h.old h.new (operand_at (get_or h.rhss d 0))
      → pull_terms m (map term_of ts) l ≡ reach_step h d l
  unfolding reach_step
  reach_is d m ts l e f = ap₂ (λ (x : ℕ) (o : Operand). pull_terms x o l) e (operand_terms h.old h.new (get_or h.rhss d 0) ts f)

  module _ (order l : List ℕ) (i : ℕ) where
    pub reach_go : i < length order → reach_from h (drop i order) l ≡ reach_from h (drop (i + 1) order) (reach_step h (get_or order i 0) l)
    unfolding reach_from
    reach_go k = ap (λ (x : List ℕ). reach_from h x l) (drop_step order i 0 k)

    pub reach_end : length order ≤ i → reach_from h (drop i order) l ≡ l
    unfolding reach_from
    reach_end k = ap (λ (x : List ℕ). reach_from h x l) (drop_of_length-le order k)
