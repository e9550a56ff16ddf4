-- Masks that are carried down an expansion, and terms that are passed over by them. Assumes nothing.
use mathlib.Core.Path.{◌≡◌, refl, sym, ap, ap₂, ◌∙◌, subst}
use Prim.Native.Nat.{ℕ, zero, suc, ◌+◌, ◌^◌, ◌≤◌, ◌<◌}
use mathlib.Core.Bool.{Bool, true, false}
use mathlib.Core.List.{List, map}
use native.Mathlib.Nat.{mod-eq_of_lt}
use native.Mathlib.Omega.{arith}
use native.Mathlib.Decide.{dec_lt}
use lib.Dec.{eqb, lit<}
use lib.Bits.{bit_and, and_mask, and_comm, and_zero_r}
use lib.ListN.{length, get_or, drop}
use borrow.Author.Tests.{eq-eqb, ne_eqb, eqb-true, eqb-false}
use Rattle.shift.specs.declared.Shift.{Shift}
use Rattle.shift.specs.Shifts.{Valid, valid_number, shift_at, apply_of}
use Rattle.shift.proofs.Linear.{shifted_lt}
use Rattle.shift.proofs.Numbers.{number-back, valid_at}
use Rattle.operand.specs.declared.PushInner.{PushInner}
use Rattle.operand.specs.declared.PushInner.TheVariants.{Seq, Zero, OverBudget}
use Rattle.operand.specs.Push.{push_valid}
use Rattle.operand.specs.Numbers.{Term, term_of}
use Rattle.alive.specs.Masks.{ones, pulled}
use Rattle.alive.proofs.Pulls.{pulled_lt, pulled-right}
use Rattle.alive.proofs.Living.{fold_says, seq_alive}
use Rattle.patch.specs.Expansion.{under, Within}
use Rattle.patch.specs.Steps.{Written, write_down}
use Rattle.patch.specs.Spelling.{Source, in_place, inlined_number, spell_under, spell, Sees, look_by, look}
use Rattle.patch.proofs.Spells.{place_some, spell-dead, under_step}

-- ---- masks

ones_all : (y : ℕ) → y < 2 ^ 64 → bit_and y ones ≡ y
ones_all y b = and_mask y 64 ∙ mod-eq_of_lt b

-- what gets through two shifts to some bit
pub sees_two : (i o : Shift) → Valid i → Valid o → Sees (pulled i (pulled o ones)) i o
sees_two i o hi ho = (pulled_lt i hi (pulled o ones) small, λ w h. (away w h, onto w h))
  where
    small : pulled o ones < 2 ^ 64
    small = pulled_lt o ho ones (lit< tt)

    all : (w : ℕ) → w < 2 ^ 64 → bit_and (apply_of o (apply_of i w)) ones ≡ apply_of o (apply_of i w)
    all w h = ones_all (apply_of o (apply_of i w)) (shifted_lt o ho (apply_of i w) (shifted_lt i hi w h))

    away : (w : ℕ) → w < 2 ^ 64 → bit_and w (pulled i (pulled o ones)) ≡ 0 → apply_of o (apply_of i w) ≡ 0
    away w h e =
        sym (all w h)
        ∙ (pulled-right o ho (apply_of i w) ones (shifted_lt i hi w h) (lit< tt)).1 ((pulled-right i hi w (pulled o ones) h small).1 e)

    onto : (w : ℕ) → w < 2 ^ 64 → apply_of o (apply_of i w) ≡ 0 → bit_and w (pulled i (pulled o ones)) ≡ 0
    onto w h e = (pulled-right i hi w (pulled o ones) h small).0 ((pulled-right o ho (apply_of i w) ones (shifted_lt i hi w h) (lit< tt)).0 (all w h ∙ e))

module _ (k : ℕ) (i o s : Shift) (hi : Valid i) (ho : Valid o) (hs : Valid s) (sees : Sees k i o) where
  -- one shift more, folded in as the innermost one
  pub sees_fold : (a b : Shift) → push_valid i o s 2 ≡ Seq a b → Sees (pulled s k) a b
  sees_fold a b e = (pulled_lt s hs k sees.0, λ w h. (away w h, onto w h))
    where
      same : (w : ℕ) → w < 2 ^ 64 → apply_of b (apply_of a w) ≡ apply_of o (apply_of i (apply_of s w))
      same = (fold_says i o s hi ho hs 2 (Seq a b) e).2

      away : (w : ℕ) → w < 2 ^ 64 → bit_and w (pulled s k) ≡ 0 → apply_of b (apply_of a w) ≡ 0
      away w h q = same w h ∙ (sees.1 (apply_of s w) (shifted_lt s hs w h)).0 ((pulled-right s hs w k h sees.0).1 q)

      onto : (w : ℕ) → w < 2 ^ 64 → apply_of b (apply_of a w) ≡ 0 → bit_and w (pulled s k) ≡ 0
      onto w h q = (pulled-right s hs w k h sees.0).0 ((sees.1 (apply_of s w) (shifted_lt s hs w h)).1 (sym (same w h) ∙ q))

  -- a mask that takes in nothing is of no two shifts that a fold leaves
  none_seen : (a b : Shift) → push_valid i o s 2 ≡ Seq a b → k ≡ 0 → ⊥
  none_seen a b e z =
      seq_alive i o s hi ho hs 2 a b e
      ((fold_says i o s hi ho hs 2 (Seq a b) e).2 ones (lit< tt) ∙ (sees.1 (apply_of s ones) (shifted_lt s hs ones (lit< tt))).0 (ap (bit_and (apply_of s ones)) z ∙ and_zero_r (apply_of s ones)))

-- the test of a mask is the test of what gets through
pub seen_dead : (k : ℕ) (i o : Shift) → Sees k i o → (w : ℕ) → w < 2 ^ 64 → eqb (bit_and w k) 0 ≡ eqb (apply_of o (apply_of i w)) 0
seen_dead k i o sees w h = go (eqb (bit_and w k) 0) refl
  where
    go : (b : Bool) → eqb (bit_and w k) 0 ≡ b → b ≡ eqb (apply_of o (apply_of i w)) 0
    go true e = sym (eq-eqb (apply_of o (apply_of i w)) 0 ((sees.1 w h).0 (eqb-true (bit_and w k) 0 e)))
    go false e = sym (ne_eqb (apply_of o (apply_of i w)) 0 (λ q. eqb-false (bit_and w k) 0 e ((sees.1 w h).1 q)))

-- one place more whose mask has nothing in common with k
pub clear_more : (l : List ℕ) (k from i : ℕ) → ((j : ℕ) → from ≤ j → j < i → bit_and (get_or l j 0) k ≡ 0) → bit_and (get_or l i 0) k ≡ 0
    → (j : ℕ) → from ≤ j → j < i + 1 → bit_and (get_or l j 0) k ≡ 0
clear_more l k from i f e j a b = elim (dec_lt j i) [ yes h ↦ f j a h | no h ↦ let z : i ≡ j = omega arith in subst (λ (x : ℕ). bit_and (get_or l x 0) k ≡ 0) z e ]

-- ---- terms

module _ (s : Source) (small : (e : ℕ) → get_or s.alive e 0 < 2 ^ 64) (n k : ℕ) (i o : Shift) (hi : Valid i) (ho : Valid o) (sees : Sees k i o) where
  -- a term whose mask has nothing in common with k writes nothing
  pub passed : (u : Term) → valid_number u.inner ≡ true → Within (in_place s) n u.wire → bit_and (look s.table s.decisions s.alive u) k ≡ 0 → (m : Written)
      → write_down (spell s n) u.wire (push_valid i o (shift_at u.inner) 2) m ≡ m
  unfolding look
  passed u v deep e m = by (inlined_number s.decisions (get_or s.table u.wire 0)) refl e (push_valid i o f 2) refl
    where
      f : Shift
      f = shift_at u.inner

      hf : Valid f
      hf = valid_at u.inner v

      by : (x : ℕ) → inlined_number s.decisions (get_or s.table u.wire 0) ≡ x → bit_and (look_by s.alive u x) k ≡ 0 → (p : PushInner) → push_valid i o f 2 ≡ p
          → write_down (spell s n) u.wire p m ≡ m
      by x q z Zero r = refl
      by x q z OverBudget r = refl
      by zero q z (Seq a c) r = absurd (none_seen k i o f hi ho hf sees a c r (sym (ones_all k sees.0) ∙ and_comm k ones ∙ z))
      by (suc d) q z (Seq a c) r =
          let t = fold_says i o f hi ho hf 2 (Seq a c) r in
          let w = get_or s.alive d 0 in
          sym (spell-dead s n m (under u.wire a c) d (place_some s u.wire d q) deep
          (ap₂ (λ (x y : Shift). eqb (apply_of x (apply_of y w)) 0) (number-back c t.1) (number-back a t.0)
          ∙ eq-eqb (apply_of c (apply_of a w)) 0 (t.2 w (small d) ∙ (sees.1 (apply_of f w) (shifted_lt f hf w (small d))).0 z)))

  -- so do all that stand before the place r
  pub passed_all : (ts : List ℕ) → ((j : ℕ) → j < length ts → valid_number (term_of (get_or ts j 0)).inner ≡ true) → ((j : ℕ) → j < length ts → Within (in_place s) n (term_of (get_or ts j 0)).wire)
      → (more j : ℕ) → j + more ≤ length ts → ((l : ℕ) → j ≤ l → l < j + more → bit_and (look s.table s.decisions s.alive (term_of (get_or ts l 0))) k ≡ 0) → (m : Written)
      → spell_under (spell s n) i o (map term_of (drop (j + more) ts)) m ≡ spell_under (spell s n) i o (map term_of (drop j ts)) m
  passed_all ts v deep zero j h f m = let z : j + 0 ≡ j = omega arith in ap (λ (x : ℕ). spell_under (spell s n) i o (map term_of (drop x ts)) m) z
  passed_all ts v deep (suc more) j h f m =
      let z : j + suc more ≡ j + 1 + more = omega arith in
      ap (λ (x : ℕ). spell_under (spell s n) i o (map term_of (drop x ts)) m) z
      ∙ passed_all ts v deep more (j + 1) (omega arith) (λ l a b. f l (omega arith) (omega arith)) m
      ∙ ap (spell_under (spell s n) i o (map term_of (drop (j + 1) ts))) (sym (passed (term_of (get_or ts j 0)) (v j (omega arith)) (deep j (omega arith)) (f j (omega arith) (omega arith)) m))
      ∙ sym (under_step (spell s n) i o ts j m (omega arith))
