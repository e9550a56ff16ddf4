-- Folding a shift into a sequence of two keeps the meaning, and leaves a canonical spelling. Assumes nothing.
use mathlib.Core.Path.{◌≡◌, refl, sym, ap, ◌∙◌, subst}
use mathlib.Core.Bool.{Bool, true, false, cond, ◌&&◌}
use Prim.Native.Nat.{ℕ, ◌<◌, ◌^◌}
use native.Mathlib.Decide.{ℕ_discrete}
use native.Mathlib.Omega.{arith}
use lib.Dec.{leb, eqb, lit<}
use borrow.Author.Tests.{eqb-true, eqb-false, eq-eqb}
use Rattle.shift.specs.declared.Shift.{Shift}
use Rattle.shift.specs.declared.Composition.{Composition}
use Rattle.shift.specs.declared.Composition.TheVariants as C
use Rattle.shift.specs.Shifts.{Valid, identity, apply_of}
use Rattle.shift.specs.Compose.{compose_valid, Right}
use Rattle.shift.proofs.Linear.{still, shifted_lt, zero-shifted}
use Rattle.shift.proofs.Composes.{on_cond, compose_right}
use Rattle.operand.specs.declared.PushInner.TheVariants.{Seq}
use Rattle.operand.specs.Push.{lone_of, second_fold, first_fold, push_valid, PushRight, Spelt, unshifted, singly, doubly}

and_second : (a b : Bool) → (a && b) ≡ true → b ≡ true
and_second true b e = e
and_second false b e = absurd (let n : ◌≡◌ {A = ℕ} 0 1 = ap (λ (x : Bool). cond x 1 0) e in omega arith)

-- a shift that two valid ones come to is valid
pub merged_valid : (a b m : Shift) → Valid a → Valid b → compose_valid a b ≡ C.Single m → Valid m
merged_valid a b m ha hb e = (subst (Right a b) e (compose_right a b ha hb)).0

module _ (i o s : Shift) (hi : Valid i) (ho : Valid o) (hs : Valid s) where
  within : (w : ℕ) → w < 2 ^ 64 → apply_of i (apply_of s w) < 2 ^ 64
  within w h = shifted_lt i hi (apply_of s w) (shifted_lt s hs w h)

  sure : Valid identity
  sure = lit< tt

  second : (m : Shift) → Valid m → ((w : ℕ) → w < 2 ^ 64 → apply_of i (apply_of s w) ≡ apply_of m w)
      → (c : Composition) → Right m o c → PushRight i o s (second_fold m o c)
  second m v e (C.Single c) r =
      on_cond (PushRight i o s) (eqb c.amount 0)
      (λ t. (
        sure,
        sure,
        λ w h. still identity sure refl (apply_of identity w) (shifted_lt identity sure w h) ∙ still identity sure refl w h
            ∙ sym (still c r.0 (eqb-true c.amount 0 t) w h) ∙ whole w h,
      ))
      (λ t. (r.0, sure, λ w h. still identity sure refl (apply_of c w) (shifted_lt c r.0 w h) ∙ whole w h))
    where
      whole : (w : ℕ) → w < 2 ^ 64 → apply_of c w ≡ apply_of o (apply_of i (apply_of s w))
      whole w h = sym (ap (apply_of o) (e w h) ∙ r.1 w h)
  second m v e C.Zero r = λ w h. ap (apply_of o) (e w h) ∙ r w h
  second m v e C.Pair r = (v, ho, λ w h. ap (apply_of o) (sym (e w h)))

  first : (slots : ℕ) (c : Composition) → Right s i c → PushRight i o s (first_fold i o s slots c)
  first slots (C.Single m) r = second m r.0 r.1 (compose_valid m o) (compose_right m o r.0 ho)
  first slots C.Zero r = λ w h. ap (apply_of o) (r w h) ∙ zero-shifted o ho
  first slots C.Pair r =
      on_cond (PushRight i o s) (leb 2 slots && eqb o.amount 0)
      (λ t. (hs, hi, λ w h. sym (still o ho (eqb-true o.amount 0 (and_second (leb 2 slots) (eqb o.amount 0) t)) (apply_of i (apply_of s w)) (within w h))))
      (λ t. tt)

  -- THE THEOREM: of valid shifts, Seq and Zero have the meaning of the three, and the shifts of a Seq are valid
  pub push-right : (slots : ℕ) → PushRight i o s (push_valid i o s slots)
  unfolding push_valid
  push-right slots = first slots (compose_valid s i) (compose_right s i hs hi)

single_or_single : (b : Bool) (x y : Shift) → cond b (C.Single x) (C.Single y) ≡ C.Pair → ⊥
single_or_single true x y e = let n : ◌≡◌ {A = ℕ} 0 1 = cc in omega arith
single_or_single false x y e = let n : ◌≡◌ {A = ℕ} 0 1 = cc in omega arith

-- two shifts that do not compose are no identities
some_inner : (a b : Shift) → compose_valid a b ≡ C.Pair → 0 < a.amount
unfolding compose_valid
some_inner a b e = elim (ℕ_discrete a.amount 0) [
  | yes z ↦ absurd (single_or_single true b a (rw (eq-eqb a.amount 0 z) at e))
  | no z ↦ omega arith
]

some_outer : (a b : Shift) → compose_valid a b ≡ C.Pair → 0 < b.amount
unfolding compose_valid
some_outer a b e = elim (ℕ_discrete b.amount 0) [
  | yes z ↦ absurd (single_or_single (eqb a.amount 0) b a (rw (eq-eqb b.amount 0 z) at e))
  | no z ↦ omega arith
]

pair_spelt : (a b : Shift) → compose_valid a b ≡ C.Pair → Spelt (Seq a b)
pair_spelt a b e = doubly (some_inner a b e) (some_outer a b e) e

lone-spelt : (s : Shift) → Spelt (lone_of s)
lone-spelt s = on_cond Spelt (eqb s.amount 0) (λ t. unshifted) (λ t. let z : s.amount ≡ 0 → ⊥ = eqb-false s.amount 0 t in singly (omega arith))

second_spelt : (m o : Shift) (c : Composition) → compose_valid m o ≡ c → Spelt (second_fold m o c)
second_spelt m o (C.Single s) e = lone-spelt s
second_spelt m o C.Zero e = tt
second_spelt m o C.Pair e = pair_spelt m o e

first_spelt : (i o s : Shift) (slots : ℕ) (c : Composition) → compose_valid s i ≡ c → Spelt (first_fold i o s slots c)
first_spelt i o s slots (C.Single m) e = second_spelt m o (compose_valid m o) refl
first_spelt i o s slots C.Zero e = tt
first_spelt i o s slots C.Pair e = on_cond Spelt (leb 2 slots && eqb o.amount 0) (λ t. pair_spelt s i e) (λ t. tt)

-- after one push the spelling is canonical
pub push_canonical : (i o s : Shift) (slots : ℕ) → Spelt (push_valid i o s slots)
unfolding push_valid
push_canonical i o s slots = first_spelt i o s slots (compose_valid s i) refl
