-- Shifts that a fold leaves clear no word wholly: all ones go on to something. Assumes nothing.
--
-- Of one shift by a test at each amount; of two shifts that do not compose, at each two amounts. What composes is tested at those pairs of
-- amounts only that clear all ones.
use mathlib.Core.Path.{◌≡◌, refl, sym, ap, ◌∙◌, subst}
use mathlib.Core.Bool.{Bool, true, false, not, ◌||◌}
use Prim.Native.Nat.{ℕ, ◌^◌, ◌<◌}
use lib.Dec.{T, eqb, lit<}
use borrow.Author.Tests.{eq-eqb}
use Rattle.word.specs.Word.{signed, floor_div, unsigned, arith_right, turn, halves}
use Rattle.word.proofs.Probes.{upto, below}
use Rattle.shift.specs.declared.ShiftVariant.{ShiftVariant}
use Rattle.shift.specs.declared.ShiftVariant.TheVariants.{Sll, Slr, Sar, Rotr, Sll32, Srl32, Sra32, Rotr32}
use Rattle.shift.specs.declared.Shift.{Shift}
use Rattle.shift.specs.declared.Composition.{Composition}
use Rattle.shift.specs.declared.Composition.TheVariants as C
use Rattle.shift.specs.Shifts.{width_of, Valid, shifted, by, identity, apply_of}
use Rattle.shift.specs.Compose.{degenerates, chains, compose_valid}
use Rattle.shift.proofs.Linear.{still, shifted_lt}
use Rattle.operand.specs.declared.PushInner.{PushInner}
use Rattle.operand.specs.declared.PushInner.TheVariants.{Seq, Zero}
use Rattle.operand.specs.Push.{push_valid, PushRight, Canonical, unshifted, singly, doubly, Spelt}
use Rattle.operand.proofs.Pushes.{push-right, push_canonical}
use Rattle.alive.specs.Masks.{ones, back, pulled_back, pulled}

some : ℕ → Bool
some w = not (eqb w 0)

not_nought : (w : ℕ) → T (some w) → w ≡ 0 → ⊥
unfolding some
not_nought w t e = subst (λ (b : Bool). T (not b)) (eq-eqb w 0 e) t

-- ---- one shift

one_test : ShiftVariant → Bool
one_test v = upto (λ n. some (shifted v n ones)) (width_of v)

back_test : ShiftVariant → Bool
back_test v = upto (λ n. some (pulled_back v n ones)) (width_of v)

one_tested : (v : ShiftVariant) → T (one_test v)
unfolding one_test some shifted signed floor_div unsigned arith_right turn halves
one_tested Sll = tt
one_tested Slr = tt
one_tested Sar = tt
one_tested Rotr = tt
one_tested Sll32 = tt
one_tested Srl32 = tt
one_tested Sra32 = tt
one_tested Rotr32 = tt

back_tested : (v : ShiftVariant) → T (back_test v)
unfolding back_test some pulled_back back turn halves
back_tested Sll = tt
back_tested Slr = tt
back_tested Sar = tt
back_tested Rotr = tt
back_tested Sll32 = tt
back_tested Srl32 = tt
back_tested Sra32 = tt
back_tested Rotr32 = tt

pub shift_alive : (s : Shift) → Valid s → apply_of s ones ≡ 0 → ⊥
unfolding one_test
shift_alive s h = not_nought (apply_of s ones) (below (λ n. some (shifted s.variant n ones)) (width_of s.variant) (one_tested s.variant) s.amount h)

pub pulled_alive : (s : Shift) → Valid s → pulled s ones ≡ 0 → ⊥
unfolding back_test
pulled_alive s h = not_nought (pulled s ones) (below (λ n. some (pulled_back s.variant n ones)) (width_of s.variant) (back_tested s.variant) s.amount h)

-- ---- two shifts that do not compose

composes : Composition → Bool
composes (C.Single s) = true
composes C.Zero = true
composes C.Pair = false

two_test : ShiftVariant → ShiftVariant → Bool
two_test v u = upto (λ m. upto (λ n. some (shifted u n (shifted v m ones)) || composes (compose_valid (by v m) (by u n))) (width_of u)) (width_of v)

sll_tested : (u : ShiftVariant) → T (two_test Sll u)
unfolding two_test some composes compose_valid degenerates chains shifted signed floor_div unsigned arith_right turn halves
sll_tested Sll = tt
sll_tested Slr = tt
sll_tested Sar = tt
sll_tested Rotr = tt
sll_tested Sll32 = tt
sll_tested Srl32 = tt
sll_tested Sra32 = tt
sll_tested Rotr32 = tt

slr_tested : (u : ShiftVariant) → T (two_test Slr u)
unfolding two_test some composes compose_valid degenerates chains shifted signed floor_div unsigned arith_right turn halves
slr_tested Sll = tt
slr_tested Slr = tt
slr_tested Sar = tt
slr_tested Rotr = tt
slr_tested Sll32 = tt
slr_tested Srl32 = tt
slr_tested Sra32 = tt
slr_tested Rotr32 = tt

sar_tested : (u : ShiftVariant) → T (two_test Sar u)
unfolding two_test some composes compose_valid degenerates chains shifted signed floor_div unsigned arith_right turn halves
sar_tested Sll = tt
sar_tested Slr = tt
sar_tested Sar = tt
sar_tested Rotr = tt
sar_tested Sll32 = tt
sar_tested Srl32 = tt
sar_tested Sra32 = tt
sar_tested Rotr32 = tt

rotr_tested : (u : ShiftVariant) → T (two_test Rotr u)
unfolding two_test some composes compose_valid degenerates chains shifted signed floor_div unsigned arith_right turn halves
rotr_tested Sll = tt
rotr_tested Slr = tt
rotr_tested Sar = tt
rotr_tested Rotr = tt
rotr_tested Sll32 = tt
rotr_tested Srl32 = tt
rotr_tested Sra32 = tt
rotr_tested Rotr32 = tt

sll32_tested : (u : ShiftVariant) → T (two_test Sll32 u)
unfolding two_test some composes compose_valid degenerates chains shifted signed floor_div unsigned arith_right turn halves
sll32_tested Sll = tt
sll32_tested Slr = tt
sll32_tested Sar = tt
sll32_tested Rotr = tt
sll32_tested Sll32 = tt
sll32_tested Srl32 = tt
sll32_tested Sra32 = tt
sll32_tested Rotr32 = tt

srl32_tested : (u : ShiftVariant) → T (two_test Srl32 u)
unfolding two_test some composes compose_valid degenerates chains shifted signed floor_div unsigned arith_right turn halves
srl32_tested Sll = tt
srl32_tested Slr = tt
srl32_tested Sar = tt
srl32_tested Rotr = tt
srl32_tested Sll32 = tt
srl32_tested Srl32 = tt
srl32_tested Sra32 = tt
srl32_tested Rotr32 = tt

sra32_tested : (u : ShiftVariant) → T (two_test Sra32 u)
unfolding two_test some composes compose_valid degenerates chains shifted signed floor_div unsigned arith_right turn halves
sra32_tested Sll = tt
sra32_tested Slr = tt
sra32_tested Sar = tt
sra32_tested Rotr = tt
sra32_tested Sll32 = tt
sra32_tested Srl32 = tt
sra32_tested Sra32 = tt
sra32_tested Rotr32 = tt

rotr32_tested : (u : ShiftVariant) → T (two_test Rotr32 u)
unfolding two_test some composes compose_valid degenerates chains shifted signed floor_div unsigned arith_right turn halves
rotr32_tested Sll = tt
rotr32_tested Slr = tt
rotr32_tested Sar = tt
rotr32_tested Rotr = tt
rotr32_tested Sll32 = tt
rotr32_tested Srl32 = tt
rotr32_tested Sra32 = tt
rotr32_tested Rotr32 = tt

two_tested : (v u : ShiftVariant) → T (two_test v u)
two_tested Sll u = sll_tested u
two_tested Slr u = slr_tested u
two_tested Sar u = sar_tested u
two_tested Rotr u = rotr_tested u
two_tested Sll32 u = sll32_tested u
two_tested Srl32 u = srl32_tested u
two_tested Sra32 u = sra32_tested u
two_tested Rotr32 u = rotr32_tested u

either_of : (a b : Bool) → T (a || b) → b ≡ false → T a
either_of true b t e = tt
either_of false b t e = subst T e t

pub pair_alive : (a b : Shift) → Valid a → Valid b → compose_valid a b ≡ C.Pair → apply_of b (apply_of a ones) ≡ 0 → ⊥
unfolding two_test composes
pair_alive a b h l e =
    not_nought (apply_of b (apply_of a ones))
    (either_of (some (apply_of b (apply_of a ones))) (composes (compose_valid a b))
    (below (λ n. some (shifted b.variant n (apply_of a ones)) || composes (compose_valid a (by b.variant n))) (width_of b.variant)
    (below (λ m. upto (λ n. some (shifted b.variant n (shifted a.variant m ones)) || composes (compose_valid (by a.variant m) (by b.variant n))) (width_of b.variant))
    (width_of a.variant) (two_tested a.variant b.variant) a.amount h) b.amount l)
    (rw e))

-- ---- what a fold leaves

spelt_alive : (a b : Shift) → Valid a → Valid b → Canonical a b → apply_of b (apply_of a ones) ≡ 0 → ⊥
spelt_alive a b h l unshifted e = shift_alive identity l (sym (ap (apply_of identity) (still identity l refl ones (lit< tt))) ∙ e)
spelt_alive a b h l (singly p) e = shift_alive a h (sym (still identity l refl (apply_of a ones) (shifted_lt a h ones (lit< tt))) ∙ e)
spelt_alive a b h l (doubly p q r) e = pair_alive a b h l r e

module _ (i o s : Shift) (hi : Valid i) (ho : Valid o) (hs : Valid s) (slots : ℕ) where
  -- what a fold says, where its answer is known
  pub fold_says : (x : PushInner) → push_valid i o s slots ≡ x → PushRight i o s x
  fold_says x e = subst (PushRight i o s) e (push-right i o s hi ho hs slots)

  -- at Seq the two shifts take all ones to something
  pub seq_alive : (a b : Shift) → push_valid i o s slots ≡ Seq a b → apply_of b (apply_of a ones) ≡ 0 → ⊥
  seq_alive a b e = let r = fold_says (Seq a b) e in spelt_alive a b r.0 r.1 (subst Spelt e (push_canonical i o s slots))

  -- at Zero the three clear every word
  pub zero_clears : push_valid i o s slots ≡ Zero → (w : ℕ) → w < 2 ^ 64 → apply_of o (apply_of i (apply_of s w)) ≡ 0
  zero_clears e = fold_says Zero e

-- ---- identities

none-back : (v : ShiftVariant) → pulled_back v 0 ones ≡ ones
unfolding pulled_back back turn halves
none-back Sll = refl
none-back Slr = refl
none-back Sar = refl
none-back Rotr = refl
none-back Sll32 = refl
none-back Srl32 = refl
none-back Sra32 = refl
none-back Rotr32 = refl

-- an identity takes every bit in
pub identity-back : (s : Shift) → s.amount ≡ 0 → pulled s ones ≡ ones
identity-back s e = ap (λ (n : ℕ). pulled_back s.variant n ones) e ∙ none-back s.variant
