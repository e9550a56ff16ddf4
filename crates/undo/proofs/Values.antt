-- Shifts by their numbers: a shift of an xor, of 0 and of a word; and what a fold is worth. Assumes nothing.
use mathlib.Core.Path.{◌≡◌, refl, sym, ap, ap₂, ◌∙◌, subst}
use Prim.Native.Nat.{ℕ, ◌<◌, ◌^◌}
use mathlib.Core.Bool.{Bool, true, false, cond}
use mathlib.Core.List.{[], ◌∷◌, ◌++◌}
use lib.Bits.{bit_xor, xor_lt, xor_zero_l, xor_zero_r}
use lib.Dec.{lit<}
use borrow.Author.Tests.{eqb-true}
use Rattle.shift.specs.declared.Shift.{Shift}
use Rattle.shift.specs.Shifts.{Valid, valid_number, number_of, shift_at, apply_of}
use Rattle.shift.proofs.Linear.{shifted_lt, xor_shifted, zero-shifted, still}
use Rattle.shift.proofs.Numbers.{number-back, number-valid, valid_at}
use Rattle.operand.specs.declared.PushInner.TheVariants.{Seq, Zero}
use Rattle.operand.specs.Push.{PushRight}
use Rattle.operand.specs.Numbers.{Term, Operand}
use Rattle.operand.proofs.Pushes.{push-right}
use Rattle.lower.specs.Lists.{All, done, more}
use Rattle.lower.specs.Values.{moved, term_value, value}
use Rattle.lower.specs.Accepted.{ShiftsOf, is_identity}
use Rattle.patch.specs.Expansion.{folded}
use Rattle.undo.specs.FillBack.{IsWord}
use Rattle.undo.proofs.Xor.{xor_assoc}

-- ---- one shift

pub moved_at : (n x : ℕ) → valid_number n ≡ true → moved n x ≡ apply_of (shift_at n) x
unfolding moved
moved_at n x e = rw e

pub moved_by : (s : Shift) (x : ℕ) → Valid s → moved (number_of s) x ≡ apply_of s x
moved_by s x h = moved_at (number_of s) x (number-valid s h) ∙ ap (λ (r : Shift). apply_of r x) (number-back s h)

pub moved_word : (n x : ℕ) → IsWord x → IsWord (moved n x)
unfolding moved
moved_word n x h = go (valid_number n) refl
  where
    go : (b : Bool) → valid_number n ≡ b → cond b (apply_of (shift_at n) x) 0 < 2 ^ 64
    go true e = shifted_lt (shift_at n) (valid_at n e) x h
    go false e = lit< tt

pub moved_xor : (n a b : ℕ) → IsWord a → IsWord b → moved n (bit_xor a b) ≡ bit_xor (moved n a) (moved n b)
unfolding moved
moved_xor n a b h k = go (valid_number n) refl
  where
    go : (t : Bool) → valid_number n ≡ t → cond t (apply_of (shift_at n) (bit_xor a b)) 0 ≡ bit_xor (cond t (apply_of (shift_at n) a) 0) (cond t (apply_of (shift_at n) b) 0)
    go true e = xor_shifted (shift_at n) (valid_at n e) a b h k
    go false e = refl

pub moved-zero : (n : ℕ) → moved n 0 ≡ 0
unfolding moved
moved-zero n = go (valid_number n) refl
  where
    go : (b : Bool) → valid_number n ≡ b → cond b (apply_of (shift_at n) 0) 0 ≡ 0
    go true e = zero-shifted (shift_at n) (valid_at n e)
    go false e = refl

pub moved-identity : (n x : ℕ) → valid_number n ≡ true → is_identity n ≡ true → IsWord x → moved n x ≡ x
moved-identity n x e i h = moved_at n x e ∙ still (shift_at n) (valid_at n e) (eqb-true (shift_at n).amount 0 i) x h

-- ---- a fold

-- the shifts of t after a shift by u's inner one
abbrev pub thrice : Term → Term → ℕ → ℕ
thrice t u x = moved t.outer (moved t.inner (moved u.inner x))

module _ (t u : Term) (vt : ShiftsOf t) (vu : valid_number u.inner ≡ true) where
  right : PushRight (shift_at t.inner) (shift_at t.outer) (shift_at u.inner) (folded t u)
  right = push-right (shift_at t.inner) (shift_at t.outer) (shift_at u.inner) (valid_at t.inner vt.0) (valid_at t.outer vt.1) (valid_at u.inner vu) 2

  applied : (x : ℕ) → thrice t u x ≡ apply_of (shift_at t.outer) (apply_of (shift_at t.inner) (apply_of (shift_at u.inner) x))
  applied x =
      moved_at t.outer (moved t.inner (moved u.inner x)) vt.1
      ∙ ap (apply_of (shift_at t.outer)) (moved_at t.inner (moved u.inner x) vt.0 ∙ ap (apply_of (shift_at t.inner)) (moved_at u.inner x vu))

  -- two shifts have the meaning of the three
  pub fold_seq : (i o : Shift) (x : ℕ) → folded t u ≡ Seq i o → IsWord x → moved (number_of o) (moved (number_of i) x) ≡ thrice t u x
  fold_seq i o x e h =
      let r : PushRight (shift_at t.inner) (shift_at t.outer) (shift_at u.inner) (Seq i o) = subst (PushRight (shift_at t.inner) (shift_at t.outer) (shift_at u.inner)) e right in
      moved_by o (moved (number_of i) x) r.1 ∙ ap (apply_of o) (moved_by i x r.0) ∙ r.2 x h ∙ sym (applied x)

  -- the three clear every word
  pub fold_zero : (x : ℕ) → folded t u ≡ Zero → IsWord x → thrice t u x ≡ 0
  fold_zero x e h =
      let r : PushRight (shift_at t.inner) (shift_at t.outer) (shift_at u.inner) Zero = subst (PushRight (shift_at t.inner) (shift_at t.outer) (shift_at u.inner)) e right in
      applied x ∙ r x h

-- ---- operands

module _ (w : ℕ → ℕ) where
  pub value-append : (a b : Operand) → value w (a ++ b) ≡ bit_xor (value w a) (value w b)
  value-append [] b = sym (xor_zero_l (value w b))
  value-append (t ∷ ts) b = ap (bit_xor (term_value w t)) (value-append ts b) ∙ sym (xor_assoc (term_value w t) (value w ts) (value w b))

  pub value_one : (t : Term) → value w (t ∷ []) ≡ term_value w t
  value_one t = xor_zero_r (term_value w t)

  module _ (words : (i : ℕ) → IsWord (w i)) where
    pub term_word : (t : Term) → IsWord (term_value w t)
    unfolding term_value
    term_word t = moved_word t.outer (moved t.inner (w t.wire)) (moved_word t.inner (w t.wire) (words t.wire))

    pub value_word : (a : Operand) → IsWord (value w a)
    value_word [] = lit< tt
    value_word (t ∷ ts) = xor_lt 64 (term_value w t) (value w ts) (term_word t) (value_word ts)

-- an operand's value turns on the words of the wires that it names
pub value_agree : (v w : ℕ → ℕ) {a : Operand} → All (λ (t : Term). v t.wire ≡ w t.wire) a → value v a ≡ value w a
unfolding term_value
value_agree v w done = refl
value_agree v w (more {x = t} h k) = ap₂ bit_xor (ap (λ (x : ℕ). moved t.outer (moved t.inner x)) h) (value_agree v w k)
