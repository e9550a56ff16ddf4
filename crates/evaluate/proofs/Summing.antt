-- The value of an operand, term after term from its end. Assumes nothing.
use mathlib.Core.Path.{◌≡◌, sym, ap, ap₂, ◌∙◌, subst}
use Prim.Native.Nat.{ℕ, ◌-◌, ◌≤◌, ◌<◌}
use mathlib.Core.List.{List, map}
use lib.ListN.{length, get_or, drop}
use lib.Seq.{drop-length}
use lib.Bits.{bit_xor}
use Rattle.shift.specs.Shifts.{shift_at, apply_of}
use Rattle.shift.specs.declared.Shift.{Shift}
use Rattle.operand.specs.Numbers.{term_of, operand_at, terms_at, operand_of}
use Rattle.lower.specs.Lists.{All}
use Rattle.lower.specs.Accepted.{ShiftsOf}
use Rattle.lower.specs.Values.{moved, term_value, value}
use Rattle.lower.proofs.Firsts.{drop_back}
use Rattle.lower.proofs.Alls.{all_unmap}

-- a word under two shifts that are valid
pub term_is : (w : ℕ → ℕ) (t : ℕ) (i o : Shift) (x y : ℕ) → ShiftsOf (term_of t) → i ≡ shift_at (term_of t).inner → o ≡ shift_at (term_of t).outer
    → x ≡ w (term_of t).wire → y ≡ apply_of i x → apply_of o y ≡ term_value w (term_of t)
unfolding term_value moved
term_is w t i o x y v a b e f = rw (v.0, v.1, b, f, a, e)

module _ (w : ℕ → ℕ) (l : List ℕ) where
  pub sum_end : 0 ≡ value w (map term_of (drop (length l) l))
  sum_end = ap (λ (ts : List ℕ). value w (map term_of ts)) (sym (drop-length l))

  pub sum_back : (i x a : ℕ) → 0 < i → i ≤ length l → x ≡ term_value w (term_of (get_or l (i - 1) 0)) → a ≡ value w (map term_of (drop i l))
      → bit_xor x a ≡ value w (map term_of (drop (i - 1) l))
  sum_back i x a p h e g = ap₂ (λ (y z : ℕ). bit_xor y z) e g ∙ sym (ap (λ (ts : List ℕ). value w (map term_of ts)) (drop_back l i 0 p h))

-- the terms that stand in a store
module _ (old new : List ℕ) (h : ℕ) (ts : List ℕ) (e : ts ≡ terms_at old new (operand_at h)) where
  pub terms_are : map term_of ts ≡ operand_of old new h
  unfolding operand_of
  terms_are = ap (map term_of) e

  pub terms_shifted : All ShiftsOf (operand_of old new h) → All (λ (t : ℕ). ShiftsOf (term_of t)) ts
  terms_shifted a = all_unmap ShiftsOf term_of ts (subst (All ShiftsOf) (sym terms_are) a)
