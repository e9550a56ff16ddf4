-- Values add under xor of assignments, and the order of terms is nothing to them. Assumes nothing.
use mathlib.Core.Path.{◌≡◌, refl, sym, ap, ap₂, ◌∙◌}
use Prim.Native.Nat.{ℕ}
use mathlib.Core.List.{[], ◌∷◌, ◌++◌}
use lib.Bits.{bit_xor, xor_comm, xor_self}
use Rattle.operand.specs.Numbers.{Term, Operand}
use Rattle.lower.specs.Values.{moved, term_value, value}
use Rattle.undo.specs.FillBack.{IsWord}
use Rattle.undo.proofs.Xor.{xor_assoc}
use Rattle.undo.proofs.Values.{moved_word, moved_xor, value-append}

pub xor_swap : (a b c : ℕ) → bit_xor a (bit_xor b c) ≡ bit_xor b (bit_xor a c)
xor_swap a b c = sym (xor_assoc a b c) ∙ ap (λ (x : ℕ). bit_xor x c) (xor_comm a b) ∙ xor_assoc b a c

-- (a + b) + (c + d) is (a + c) + (b + d)
xor_middle : (a b c d : ℕ) → bit_xor (bit_xor a b) (bit_xor c d) ≡ bit_xor (bit_xor a c) (bit_xor b d)
xor_middle a b c d = xor_assoc a b (bit_xor c d) ∙ ap (bit_xor a) (xor_swap b c d) ∙ sym (xor_assoc a c (bit_xor b d))

module _ (w v : ℕ → ℕ) (ww : (i : ℕ) → IsWord (w i)) (vw : (i : ℕ) → IsWord (v i)) where
  -- the assignment that has the xor of two at each wire
  abbrev pub added : ℕ → ℕ
  added i = bit_xor (w i) (v i)

  pub term_adds : (t : Term) → term_value added t ≡ bit_xor (term_value w t) (term_value v t)
  unfolding term_value
  term_adds t =
      ap (moved t.outer) (moved_xor t.inner (w t.wire) (v t.wire) (ww t.wire) (vw t.wire))
      ∙ moved_xor t.outer (moved t.inner (w t.wire)) (moved t.inner (v t.wire)) (moved_word t.inner (w t.wire) (ww t.wire)) (moved_word t.inner (v t.wire) (vw t.wire))

  pub value_adds : (o : Operand) → value added o ≡ bit_xor (value w o) (value v o)
  value_adds [] = refl
  value_adds (t ∷ ts) = ap₂ bit_xor (term_adds t) (value_adds ts) ∙ xor_middle (term_value w t) (term_value v t) (value w ts) (value v ts)

module _ (w : ℕ → ℕ) where
  -- two neighbours change places
  pub value_swap : (a : Operand) (t u : Term) (b : Operand) → value w (a ++ (t ∷ u ∷ b)) ≡ value w (a ++ (u ∷ t ∷ b))
  value_swap [] t u b = xor_swap (term_value w t) (term_value w u) (value w b)
  value_swap (x ∷ a) t u b = ap (bit_xor (term_value w x)) (value_swap a t u b)

  -- two operands change places
  pub value-turn : (a b : Operand) → value w (a ++ b) ≡ value w (b ++ a)
  value-turn a b = value-append w a b ∙ xor_comm (value w a) (value w b) ∙ sym (value-append w b a)

  -- an operand after itself is worth 0
  pub value-twice : (a : Operand) → value w (a ++ a) ≡ 0
  value-twice a = value-append w a a ∙ xor_self (value w a)
