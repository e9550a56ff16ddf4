-- The or of a list of masks, and the word under a term's two shifts. Assumes nothing.
use mathlib.Core.Path.{◌≡◌, sym, ap₂, ◌∙◌}
use Prim.Native.Nat.{ℕ, ◌^◌, ◌<◌}
use native.Mathlib.Nat.{mod-eq_of_lt}
use mathlib.Core.List.{List, [], ◌∷◌}
use lib.Dec.{lit<}
use lib.Bits.{bit_and, and_zero_r, or_lt, and_mask}
use Rattle.word.proofs.Moves.{Moves, after}
use Rattle.word.proofs.Probes.{zero-through}
use Rattle.shift.specs.declared.Shift.{Shift}
use Rattle.shift.specs.Shifts.{Valid, shift_at, apply_of}
use Rattle.shift.proofs.Linear.{moves, shifted_lt}
use Rattle.shift.proofs.Numbers.{number-back, valid_at}
use Rattle.operand.specs.declared.PushInner.TheVariants.{Seq, Zero}
use Rattle.operand.specs.Numbers.{Term}
use Rattle.alive.specs.Masks.{ones, pulled}
use Rattle.alive.proofs.Ors.{or_none, or_through, misses_or, misses_left, misses_right}
use Rattle.alive.proofs.Pulls.{pulled_lt, pulled-right}
use Rattle.alive.proofs.Living.{fold_says, seq_alive, zero_clears}
use Rattle.lower.specs.Lists.{All, done, more}
use Rattle.lower.specs.Accepted.{ShiftsOf}
use Rattle.patch.specs.Expansion.{under, folded}
use Rattle.reach.specs.Alive.{or_all, carried}

-- ---- the or of a list

module _ {A : Type 0} (f : A → ℕ) where
  pub or_all_lt : {l : List A} → All (λ (x : A). f x < 2 ^ 64) l → or_all f l < 2 ^ 64
  or_all_lt done = lit< tt
  or_all_lt (more {x = x} {xs = xs} h t) = or_lt 64 (f x) (or_all f xs) h (or_all_lt t)

  -- a word has no bit in common with the or exactly where it has none with any
  module _ (y : ℕ) (b : y < 2 ^ 64) where
    pub misses_all : {l : List A} → All (λ (x : A). bit_and y (f x) ≡ 0) l → bit_and y (or_all f l) ≡ 0
    misses_all done = and_zero_r y
    misses_all (more {x = x} {xs = xs} h t) = misses_or 64 y (f x) (or_all f xs) b h (misses_all t)

    pub misses_each : (l : List A) → bit_and y (or_all f l) ≡ 0 → All (λ (x : A). bit_and y (f x) ≡ 0) l
    misses_each [] e = done
    misses_each (x ∷ xs) e = more (misses_left 64 y (f x) (or_all f xs) b e) (misses_each xs (misses_right 64 y (f x) (or_all f xs) b e))

  -- a map that moves bits clears the or exactly where it clears each
  module _ {g : ℕ → ℕ} (m : Moves 64 g) where
    pub clears_all : {l : List A} → All (λ (x : A). f x < 2 ^ 64) l → All (λ (x : A). g (f x) ≡ 0) l → g (or_all f l) ≡ 0
    clears_all done done = zero-through m
    clears_all (more {x = x} {xs = xs} b t) (more h k) = or_through m (f x) (or_all f xs) b (or_all_lt t) ∙ (or_none (g (f x)) (g (or_all f xs))).1 (h, clears_all t k)

    pub clears_each : {l : List A} → All (λ (x : A). f x < 2 ^ 64) l → g (or_all f l) ≡ 0 → All (λ (x : A). g (f x) ≡ 0) l
    clears_each done e = done
    clears_each (more {x = x} {xs = xs} b t) e =
        let n = (or_none (g (f x)) (g (or_all f xs))).0 (sym (or_through m (f x) (or_all f xs) b (or_all_lt t)) ∙ e) in
        more n.0 (clears_each t n.1)

-- all ones have no bit in common with 0 alone
pub ones_all : (y : ℕ) → y < 2 ^ 64 → bit_and y ones ≡ y
ones_all y b = and_mask y 64 ∙ mod-eq_of_lt b

-- ---- a term's two shifts

pub carried_under : (w : ℕ) (a b : Shift) → Valid a → Valid b → (x : ℕ) → carried (under w a b) x ≡ apply_of b (apply_of a x)
carried_under w a b h l x = ap₂ (λ (f g : Shift). apply_of g (apply_of f x)) (number-back a h) (number-back b l)

module _ (t : Term) (h : ShiftsOf t) where
  abbrev inner : Shift
  inner = shift_at t.inner

  abbrev outer : Shift
  outer = shift_at t.outer

  abbrev hi : Valid inner
  hi = valid_at t.inner h.0

  abbrev ho : Valid outer
  ho = valid_at t.outer h.1

  pub carried_moves : Moves 64 (carried t)
  carried_moves = after (moves inner.variant inner.amount hi) (moves outer.variant outer.amount ho)

  pub carried_lt : (x : ℕ) → x < 2 ^ 64 → carried t x < 2 ^ 64
  carried_lt = carried_moves.fits

  -- the two shifts clear a word exactly where it has no bit in the mask pulled back through both
  pub pulled_clears : (x : ℕ) → x < 2 ^ 64 → bit_and x (pulled inner (pulled outer ones)) ≡ 0 → carried t x ≡ 0
  pulled_clears x b e =
      sym (ones_all (carried t x) (carried_lt x b))
      ∙ (pulled-right outer ho (apply_of inner x) ones (shifted_lt inner hi x b) (lit< tt)).1 ((pulled-right inner hi x (pulled outer ones) b (pulled_lt outer ho ones (lit< tt))).1 e)

  pub clears_pulled : (x : ℕ) → x < 2 ^ 64 → carried t x ≡ 0 → bit_and x (pulled inner (pulled outer ones)) ≡ 0
  clears_pulled x b e =
      (pulled-right inner hi x (pulled outer ones) b (pulled_lt outer ho ones (lit< tt))).0
      ((pulled-right outer ho (apply_of inner x) ones (shifted_lt inner hi x b) (lit< tt)).0 (ones_all (carried t x) (carried_lt x b) ∙ e))

  -- ---- one more shift folded in

  module _ (u : Term) (k : ShiftsOf u) where
    abbrev hs : Valid (shift_at u.inner)
    hs = valid_at u.inner k.0

    pub fold_seq : (a b : Shift) → folded t u ≡ Seq a b → (x : ℕ) → x < 2 ^ 64 → carried (under u.wire a b) x ≡ carried t (apply_of (shift_at u.inner) x)
    fold_seq a b e x l = let r = fold_says inner outer (shift_at u.inner) hi ho hs 2 (Seq a b) e in carried_under u.wire a b r.0 r.1 x ∙ r.2 x l

    pub fold_zero : folded t u ≡ Zero → (x : ℕ) → x < 2 ^ 64 → carried t (apply_of (shift_at u.inner) x) ≡ 0
    fold_zero e = zero_clears inner outer (shift_at u.inner) hi ho hs 2 e

    pub fold_alive : (a b : Shift) → folded t u ≡ Seq a b → carried (under u.wire a b) ones ≡ 0 → ⊥
    fold_alive a b e z =
        let r = fold_says inner outer (shift_at u.inner) hi ho hs 2 (Seq a b) e in
        seq_alive inner outer (shift_at u.inner) hi ho hs 2 a b e (sym (carried_under u.wire a b r.0 r.1 ones) ∙ z)
