-- Two shifts in one number, a third folded in, and the mask that is carried with them. Assumes nothing.
use mathlib.Core.Path.{◌≡◌, refl, sym, ap, ap₂, ◌∙◌, subst}
use Prim.Native.Nat.{ℕ, suc, ◌+◌, ◌-◌, ◌*◌, ◌%◌, ◌^◌, ◌<◌}
use mathlib.Core.Bool.{true, false}
use mathlib.Core.List.{List}
use native.Mathlib.Omega.{arith}
use lib.Dec.{eqb}
use native.Mathlib.Decide.{dec_lt}
use lib.Bits.{bit_and}
use lib.ListN.{get_or}
use borrow.Author.Tests.{eq-eqb, ne_eqb}
use Rattle.shift.specs.declared.Shift.{Shift}
use Rattle.shift.specs.Shifts.{Valid, number_of, valid_number, shift_at, apply_of}
use Rattle.shift.specs.declared.Composition.TheVariants as C
use Rattle.shift.specs.Compose.{compose_valid}
use Rattle.shift.proofs.Linear.{shifted_lt, still}
use Rattle.shift.proofs.Numbers.{number-back, number-valid, number_there, valid-low}
use Rattle.operand.specs.declared.PushInner.{PushInner}
use Rattle.operand.specs.declared.PushInner.TheVariants.{Seq, Zero, OverBudget}
use Rattle.operand.specs.Push.{lone_of, second_fold, fold_outer, first_fold, push_valid}
use Rattle.operand.specs.Numbers.{Term, term_of, term_number}
use Rattle.operand.proofs.Stored.{term_there, term_back}
use Rattle.alive.specs.Masks.{pulled}
use Rattle.alive.proofs.Ors.{same_by}
use Rattle.alive.proofs.Pulls.{pulled_lt, pulled-right}
use Rattle.alive.proofs.Living.{fold_says}
use Rattle.commit_set.proofs.Valids.{fold_valid}
use Rattle.std.specs.Prelude.{Option, Some, None}
use Rattle.patch.specs.Expansion.{under}
use Rattle.patch.specs.Steps.{Written, write_down}
use Rattle.patch.specs.Spelling.{inner_of, outer_of, bare, Over, folded_as, Sees, look, look_by, inlined_number}
use Rattle.patch.proofs.Spells.{number-low}
use Rattle.patch.proofs.Passing.{sees_fold}

-- ---- numbers

-- a term less its wire
pub bare-number : (t : ℕ) → t - t % 65536 ≡ term_number (bare (term_of t))
bare-number t = omega (arith, term_back t)

pub bare_there : (t : ℕ) → term_of (term_number (bare (term_of t))) ≡ bare (term_of t)
bare_there t = term_there (bare (term_of t)) (omega arith) (omega arith)

-- and with another: a wire below the shifts of the number x
abbrev pub beneath : ℕ → ℕ → Term
beneath w x = record { wire = w; inner = (term_of x).inner; outer = (term_of x).outer }

pub over-plus : (x w : ℕ) → (term_of x).wire ≡ 0 → w < 65536 → term_of (x + w) ≡ beneath w x
over-plus x w z h =
    let e : x + w ≡ term_number (beneath w x) = omega (arith, term_back x, z) in
    ap term_of e ∙ term_there (beneath w x) h (omega arith)

pub over-low : (x : ℕ) → Over x → x < 2199023255552
over-low x h = omega (arith, term_back x, h.0, valid-low (term_of x).inner h.1.0, valid-low (term_of x).outer h.1.1)

-- ---- folds of which two of three are identities

still_first : (a b : Shift) → a.amount ≡ 0 → compose_valid a b ≡ C.Single b
unfolding compose_valid
still_first a b p = rw (eq-eqb a.amount 0 p)

still_second : (a b : Shift) → 0 < a.amount → b.amount ≡ 0 → compose_valid a b ≡ C.Single a
unfolding compose_valid
still_second a b n p = rw (ne_eqb a.amount 0 (λ z. omega (arith, n, z)), eq-eqb b.amount 0 p)

lone_still : (a b : Shift) → a.amount ≡ 0 → b.amount ≡ 0 → lone_of a ≡ lone_of b
lone_still a b p q = rw (eq-eqb a.amount 0 p, eq-eqb b.amount 0 q)

-- one shift, and an identity around it
fold_around : (a b : Shift) → b.amount ≡ 0 → fold_outer a b ≡ lone_of a
fold_around a b p =
    elim (dec_lt 0 a.amount) [
      | yes h ↦ ap (second_fold a b) (still_second a b h p)
      | no h ↦ let z : a.amount ≡ 0 = omega arith in ap (second_fold a b) (still_first a b z) ∙ lone_still b a p z
    ]

module _ (i o s : Shift) (p : o.amount ≡ 0) where
  pub fold_lone : i.amount ≡ 0 → push_valid i o s 2 ≡ lone_of s
  unfolding push_valid
  fold_lone q =
      elim (dec_lt 0 s.amount) [
        | yes h ↦ ap (first_fold i o s 2) (still_second s i h q) ∙ fold_around s o p
        | no h ↦ let z : s.amount ≡ 0 = omega arith in ap (first_fold i o s 2) (still_first s i z) ∙ fold_around i o p ∙ lone_still i s q z
      ]

  pub fold_kept : s.amount ≡ 0 → push_valid i o s 2 ≡ lone_of i
  unfolding push_valid
  fold_kept q = ap (first_fold i o s 2) (still_first s i q) ∙ fold_around i o p

pub lone-none : (s : ℕ) → s % 64 ≡ 0 → Some 0 ≡ folded_as (lone_of (shift_at s))
lone-none s e = rw (eq-eqb (s % 64) 0 e)

pub lone-some : (s : ℕ) → valid_number s ≡ true → (s % 64 ≡ 0 → ⊥) → Some (65536 * s) ≡ folded_as (lone_of (shift_at s))
lone-some s v n =
    let e : 65536 * s ≡ 65536 * number_of (shift_at s) + 4294967296 * 0 = omega (arith, number_there s v) in
    rw (ne_eqb (s % 64) 0 n) (ap Some e)

-- ---- what a fold leaves

abbrev value : Option ℕ → ℕ
value (Some x) = suc x
value None = 0

pub fold_nothing : (go : Term → Written → Written) (w : ℕ) (m : Written) (p : PushInner) → folded_as p ≡ None → write_down go w p m ≡ m
fold_nothing go w m (Seq a b) e = let z = ap value e in absurd (omega (arith, z))
fold_nothing go w m Zero e = refl
fold_nothing go w m OverBudget e = refl

pub record Leaves (i o s : Shift) (x : ℕ) : Type 0 where
  pub inside : Shift
  pub outside : Shift
  pub folds : push_valid i o s 2 ≡ Seq inside outside
  pub inside_valid : Valid inside
  pub outside_valid : Valid outside
  pub term : term_of x ≡ under 0 inside outside

pub fold_leaves : (i o s : Shift) (x : ℕ) → Valid i → Valid o → Valid s → folded_as (push_valid i o s 2) ≡ Some x → Leaves i o s x
fold_leaves i o s x hi ho hs e = go (push_valid i o s 2) refl e
  where
    go : (p : PushInner) → push_valid i o s 2 ≡ p → folded_as p ≡ Some x → Leaves i o s x
    go (Seq a b) q z =
        let v = fold_valid i o s a b hi ho hs q in
        let y = ap value z in
        let u : x ≡ term_number (under 0 a b) = omega (arith, y) in
        record {
          inside = a;
          outside = b;
          folds = q;
          inside_valid = v.0;
          outside_valid = v.1;
          term = ap term_of u ∙ term_there (under 0 a b) (omega arith) (omega (arith, number-low a v.0));
        }
    go Zero q z = let y = ap value z in absurd (omega (arith, y))
    go OverBudget q z = let y = ap value z in absurd (omega (arith, y))

module _ (i o s : Shift) (x : ℕ) (l : Leaves i o s x) where
  pub leaves_over : Over x
  leaves_over = (ap (λ (t : Term). t.wire) l.term, (ap (λ (t : Term). valid_number t.inner) l.term ∙ number-valid l.inside l.inside_valid, ap (λ (t : Term). valid_number t.outer) l.term ∙ number-valid l.outside l.outside_valid))

  pub leaves_inner : inner_of x ≡ l.inside
  leaves_inner = ap (λ (t : Term). shift_at t.inner) l.term ∙ number-back l.inside l.inside_valid

  pub leaves_outer : outer_of x ≡ l.outside
  leaves_outer = ap (λ (t : Term). shift_at t.outer) l.term ∙ number-back l.outside l.outside_valid

  -- the term below the new shifts
  pub leaves_down : (go : Term → Written → Written) (v w : ℕ) → v ≡ w → (m : Written) → go (beneath v x) m ≡ write_down go w (push_valid i o s 2) m
  leaves_down go v w e m =
      ap (λ (y : ℕ). go (beneath y x) m) e
      ∙ ap (λ (t : Term). go (record { wire = w; inner = t.inner; outer = t.outer }) m) l.term
      ∙ sym (ap (λ (p : PushInner). write_down go w p m) l.folds)

-- ---- masks

-- an identity leaves a mask
pub pulled_still : (s : Shift) → Valid s → s.amount ≡ 0 → (k : ℕ) → k < 2 ^ 64 → k ≡ pulled s k
pulled_still s h z k b =
    same_by k (pulled s k) b (pulled_lt s h k b)
    (λ x l q. ap (λ (y : ℕ). bit_and y k) (sym (still s h z x l)) ∙ (pulled-right s h x k l b).1 q)
    (λ x l q. (pulled-right s h x k l b).0 (ap (λ (y : ℕ). bit_and y k) (still s h z x l) ∙ q))

module _ (k : ℕ) (i o s : Shift) (hi : Valid i) (ho : Valid o) (hs : Valid s) (sees : Sees k i o) (x : ℕ) (l : Leaves i o s x) where
  pub sees_leaves : Sees (pulled s k) (inner_of x) (outer_of x)
  sees_leaves =
      subst (λ (a : Shift). Sees (pulled s k) a (outer_of x)) (sym (leaves_inner i o s x l))
      (subst (λ (b : Shift). Sees (pulled s k) l.inside b) (sym (leaves_outer i o s x l)) (sees_fold k i o s hi ho hs sees l.inside l.outside l.folds))

  -- a definition of which the mask takes in something is not dead
  pub seen_alive : (table decisions alive : List ℕ) (t : Term) (v d : ℕ) → shift_at t.inner ≡ s → v ≡ t.wire → get_or alive d 0 < 2 ^ 64 → inlined_number decisions (get_or table v 0) ≡ suc d
      → (bit_and (look table decisions alive t) k ≡ 0 → ⊥) → eqb (apply_of (outer_of x) (apply_of (inner_of x) (get_or alive d 0))) 0 ≡ false
  unfolding look
  seen_alive table decisions alive t v d q r small n live =
      ne_eqb (apply_of (outer_of x) (apply_of (inner_of x) (get_or alive d 0))) 0
      (λ z. live
      (ap (λ (y : ℕ). bit_and (look_by alive t y) k) (ap (λ (y : ℕ). inlined_number decisions (get_or table y 0)) (sym r) ∙ n)
      ∙ ap (λ (y : Shift). bit_and (apply_of y (get_or alive d 0)) k) q
      ∙ (sees.1 (apply_of s (get_or alive d 0)) (shifted_lt s hs (get_or alive d 0) small)).1
      (sym ((fold_says i o s hi ho hs 2 (Seq l.inside l.outside) l.folds).2 (get_or alive d 0) small)
      ∙ ap₂ (λ (a b : Shift). apply_of b (apply_of a (get_or alive d 0))) (sym (leaves_inner i o s x l)) (sym (leaves_outer i o s x l))
      ∙ z)))
