-- A word shifted has a bit in a mask exactly where the word has one in the mask pulled back. Assumes nothing.
use mathlib.Core.Path.{◌≡◌, refl, sym, ap, ap₂, ◌∙◌}
use mathlib.Core.Bool.{Bool, true, false, cond}
use Prim.Native.Nat.{ℕ, ◌+◌, ◌-◌, ◌*◌, ◌/◌, ◌%◌, ◌^◌, ◌≤◌, ◌<◌, min}
use native.Mathlib.Nat.{mod-lt, mod-eq_of_lt, mod-eq-sub-mod, add-sub_of_le, lt_of_le_of_lt, div-le_self}
use native.Mathlib.Decide.{ℕ_discrete}
use native.Mathlib.Omega.{arith}
use lib.Dec.{eqb, ltb}
use lib.Pow.{pow_pos, pow-lt, split}
use lib.Arith.{digits_lt}
use lib.Bits.{bit_and, bit_or, and_block, or_lt}
use borrow.Author.Tests.{lt-ltb, le-ltb, ne_eqb, eqb-false}
use Rattle.word.specs.Word.{left, right, arith_right, turn, halves}
use Rattle.word.proofs.Bits.{bit, bit_none, bit_shr, bit_low, bit_high}
use Rattle.word.proofs.Moves.{Moves, either, left_moves, right_moves, arith_moves, turn_moves}
use Rattle.shift.specs.declared.ShiftVariant.{ShiftVariant}
use Rattle.shift.specs.declared.ShiftVariant.TheVariants.{Sll, Slr, Sar, Rotr, Sll32, Srl32, Sra32, Rotr32}
use Rattle.shift.specs.declared.Shift.{Shift}
use Rattle.shift.specs.Shifts.{width_of, Valid, shifted, apply_of}
use Rattle.alive.specs.Masks.{back, pulled_back, pulled}
use Rattle.alive.proofs.Ors.{Digit, on, off, digit, bit_nought, bit_or_lem, shared, apart, some_bit, or_left, or_right}

-- f of a number of k bits has a bit in m exactly where the number has one in g m
pub record Pulls (k : ℕ) (f g : ℕ → ℕ) : Type 0 where
  pub fits : (m : ℕ) → m < 2 ^ k → g m < 2 ^ k
  pub onto : (w m : ℕ) → w < 2 ^ k → m < 2 ^ k → bit_and (f w) m ≡ 0 → bit_and w (g m) ≡ 0
  pub away : (w m : ℕ) → w < 2 ^ k → m < 2 ^ k → bit_and w (g m) ≡ 0 → bit_and (f w) m ≡ 0

-- a bit of m, and the place it comes from
pub record At (k : ℕ) (place : ℕ → ℕ) (m p : ℕ) : Type 0 where
  pub at : ℕ
  pub at_lt : at < k
  pub at_place : place at ≡ p
  pub at_set : bit m at ≡ 1

past : (k w i : ℕ) → w < 2 ^ k → bit w i ≡ 1 → i < k
past k w i h e = either i k (λ l. l) (λ l. let z : ◌≡◌ {A = ℕ} 0 1 = sym (bit_none k i h l) ∙ e in absurd (omega arith))

-- where f moves bits: g m has the bit p exactly where some bit of m comes from p
module _ {k : ℕ} {f g : ℕ → ℕ} (mv : Moves k f) (fits : (m : ℕ) → m < 2 ^ k → g m < 2 ^ k)
    (there : (m : ℕ) → m < 2 ^ k → (i : ℕ) → i < k → bit m i ≡ 1 → mv.place i < k → bit (g m) (mv.place i) ≡ 1)
    (none : (m : ℕ) → m < 2 ^ k → (p : ℕ) → p < k → bit (g m) p ≡ 1 → (At k mv.place m p → ⊥) → ⊥) where
  by_bits : Pulls k f g
  by_bits = record {
    fits = fits;
    onto = λ w m h l e. apart k w (g m) h (λ p b c d. none m l p b d (λ a. shared (f w) m a.at (mv.from w h a.at a.at_lt ∙ ap (λ (x : ℕ). bit w x) a.at_place ∙ c) a.at_set e));
    away = λ w m h l e. apart k (f w) m (mv.fits w h) (λ i b c d.
        let q : bit w (mv.place i) ≡ 1 = sym (mv.from w h i b) ∙ c in
        shared w (g m) (mv.place i) q (there m l i b d (past k w (mv.place i) h q)) e);
  }

left_pulls : (k n : ℕ) → Pulls k (left k n) (right n)
unfolding left_moves
left_pulls k n = by_bits (left_moves k n) (λ m h. lt_of_le_of_lt (div-le_self m (2 ^ n)) h) there none
  where
    there : (m : ℕ) → m < 2 ^ k → (i : ℕ) → i < k → bit m i ≡ 1 → cond (ltb i n) k (i - n) < k → bit (m / 2 ^ n) (cond (ltb i n) k (i - n)) ≡ 1
    there m h i l e b = either i n
        (λ q. let z : k < k = rw (lt-ltb i n q) at b in absurd (omega arith))
        (λ q. rw (le-ltb i n q) (bit_shr m n (i - n) ∙ ap (λ (x : ℕ). bit m x) (add-sub_of_le q) ∙ e))

    none : (m : ℕ) → m < 2 ^ k → (p : ℕ) → p < k → bit (m / 2 ^ n) p ≡ 1 → (At k (λ i. cond (ltb i n) k (i - n)) m p → ⊥) → ⊥
    none m h p l e f =
        let s : bit m (n + p) ≡ 1 = sym (bit_shr m n p) ∙ e in
        let z : n + p - n ≡ p = omega arith in
        f (record { at = n + p; at_lt = past k m (n + p) h s; at_place = rw (le-ltb (n + p) n (omega arith)) z; at_set = s })

right_pulls : (k n : ℕ) → Pulls k (right n) (left k n)
unfolding left_moves right_moves
right_pulls k n = by_bits (right_moves k n) (left_moves k n).fits there none
  where
    there : (m : ℕ) → m < 2 ^ k → (i : ℕ) → i < k → bit m i ≡ 1 → n + i < k → bit (left k n m) (n + i) ≡ 1
    there m h i l e b =
        let z : n + i - n ≡ i = omega arith in
        (left_moves k n).from m h (n + i) b ∙ rw (le-ltb (n + i) n (omega arith), z) e

    none : (m : ℕ) → m < 2 ^ k → (p : ℕ) → p < k → bit (left k n m) p ≡ 1 → (At k (λ i. n + i) m p → ⊥) → ⊥
    none m h p l e f =
        let s : bit m (cond (ltb p n) k (p - n)) ≡ 1 = sym ((left_moves k n).from m h p l) ∙ e in
        either p n
        (λ q. let z : k < k = past k m k h (rw (lt-ltb p n q) at s) in omega arith)
        (λ q. f (record { at = p - n; at_lt = omega arith; at_place = add-sub_of_le q; at_set = rw (le-ltb p n q) at s }))

-- one bit
bit_power : (n : ℕ) → bit (2 ^ n) n ≡ 1
bit_power n =
    let z : 1 * 2 ^ n + 0 ≡ 2 ^ n = omega arith in
    let y : n + 0 ≡ n = omega arith in
    let e : bit (1 * 2 ^ n + 0) (n + 0) ≡ 1 = bit_high 1 n 0 (pow_pos n) in
    rw (z, y) at e

arith_pulls : (k n : ℕ) → n < k → Pulls k (arith_right k n) (back k n)
unfolding back left_moves arith_moves
arith_pulls k n b = by_bits (arith_moves k n (omega arith)) (λ m h. or_lt k (left k n m) (sign m) ((left_moves k n).fits m h) (sign_lt m)) there none
  where
    sign : ℕ → ℕ
    sign m = cond (eqb (m / 2 ^ (k - 1 - n)) 0) 0 (2 ^ (k - 1))

    sign_lt : (m : ℕ) → sign m < 2 ^ k
    sign_lt m = go (eqb (m / 2 ^ (k - 1 - n)) 0)
      where
        go : (t : Bool) → cond t 0 (2 ^ (k - 1)) < 2 ^ k
        go true = pow_pos k
        go false = pow-lt (omega arith)

    -- the sign comes to some bit of m
    signed_bit : (m i : ℕ) → k - 1 ≤ n + i → bit m i ≡ 1 → bit (sign m) (k - 1) ≡ 1
    signed_bit m i q e =
        rw (ne_eqb (m / 2 ^ (k - 1 - n)) 0 (λ z. let y : i ≡ k - 1 - n + (i - (k - 1 - n)) = omega arith in
        let x : ◌≡◌ {A = ℕ} 0 1 = sym (bit_nought (i - (k - 1 - n))) ∙ ap (λ (x : ℕ). bit x (i - (k - 1 - n))) (sym z) ∙ bit_shr m (k - 1 - n) (i - (k - 1 - n)) ∙ ap (λ (x : ℕ). bit m x) (sym y) ∙ e in
        omega arith))
        (bit_power (k - 1))

    there : (m : ℕ) → m < 2 ^ k → (i : ℕ) → i < k → bit m i ≡ 1 → min (n + i) (k - 1) < k → bit (bit_or (left k n m) (sign m)) (min (n + i) (k - 1)) ≡ 1
    there m h i l e c = either (n + i) (k - 1)
        (λ q. let z : min (n + i) (k - 1) ≡ n + i = omega arith in
        let y : n + i - n ≡ i = omega arith in
        rw z (or_left (left k n m) (sign m) (n + i) ((left_moves k n).from m h (n + i) (omega arith) ∙ rw (le-ltb (n + i) n (omega arith), y) e)))
        (λ q. let z : min (n + i) (k - 1) ≡ k - 1 = omega arith in
        rw z (or_right (left k n m) (sign m) (k - 1) (signed_bit m i q e)))

    none : (m : ℕ) → m < 2 ^ k → (p : ℕ) → p < k → bit (bit_or (left k n m) (sign m)) p ≡ 1 → (At k (λ i. min (n + i) (k - 1)) m p → ⊥) → ⊥
    none m h p l e f = step (digit (left k n m) p) (digit (sign m) p)
      where
        moved : bit (left k n m) p ≡ 1 → ⊥
        moved d =
            let s : bit m (cond (ltb p n) k (p - n)) ≡ 1 = sym ((left_moves k n).from m h p l) ∙ d in
            either p n
            (λ q. let z : k < k = past k m k h (rw (lt-ltb p n q) at s) in omega arith)
            (λ q. f (record { at = p - n; at_lt = omega arith; at_place = omega arith; at_set = rw (le-ltb p n q) at s }))

        top : (t : Bool) → bit (cond t 0 (2 ^ (k - 1))) p ≡ 1 → (p ≡ k - 1) × (t ≡ false)
        top true d = let z : ◌≡◌ {A = ℕ} 0 1 = sym (bit_nought p) ∙ d in absurd (omega arith)
        top false d = (
          either p (k - 1)
              (λ q. let z : 1 * 2 ^ (k - 1) + 0 ≡ 2 ^ (k - 1) = omega arith in
              let y : ◌≡◌ {A = ℕ} 0 1 = sym (bit_nought p) ∙ sym (bit_low 1 (k - 1) p (pow_pos (k - 1)) q) ∙ ap (λ (x : ℕ). bit x p) z ∙ d in
              absurd (omega arith))
              (λ q. omega arith),
          refl,
        )

        signs : bit (sign m) p ≡ 1 → ⊥
        signs d =
            let t = top (eqb (m / 2 ^ (k - 1 - n)) 0) d in
            some_bit k (m / 2 ^ (k - 1 - n)) (lt_of_le_of_lt (div-le_self m (2 ^ (k - 1 - n))) h) (eqb-false (m / 2 ^ (k - 1 - n)) 0 t.1)
            (λ i c g. let s : bit m (k - 1 - n + i) ≡ 1 = sym (bit_shr m (k - 1 - n) i) ∙ g in
            f (record { at = k - 1 - n + i; at_lt = past k m (k - 1 - n + i) h s; at_place = omega (arith, t.0); at_set = s }))

        step : Digit (bit (left k n m) p) → Digit (bit (sign m) p) → ⊥
        step (on d) c = moved d
        step (off d) (on c) = signs c
        step (off d) (off c) = let z : ◌≡◌ {A = ℕ} 0 1 = ap₂ (λ (x y : ℕ). bit_or x y) (sym d) (sym c) ∙ sym (bit_or_lem (left k n m) (sign m) p) ∙ e in omega arith

-- the rest of a turn turns back
rest_place : (k n i : ℕ) → n < k → i < k → ((k - n) % k + (n + i) % k) % k ≡ i
rest_place k n i h l = elim (ℕ_discrete n 0) [
  | yes e ↦ rw e (let z : (k - 0) % k ≡ 0 = mod-eq-sub-mod (omega arith) ∙ ap (λ (x : ℕ). x % k) (omega arith) ∙ mod-eq_of_lt (omega arith) in
      let y : 0 + i ≡ i = omega arith in
      let x : i % k ≡ i = mod-eq_of_lt l in
      rw (z, y, x, y, x))
  | no e ↦ let z : (k - n) % k ≡ k - n = mod-eq_of_lt (omega arith) in
      either (n + i) k
      (λ q. let y : (n + i) % k ≡ n + i = mod-eq_of_lt q in
      rw (z, y) (mod-eq-sub-mod (omega arith) ∙ ap (λ (x : ℕ). x % k) (omega arith) ∙ mod-eq_of_lt l))
      (λ q. let y : (n + i) % k ≡ n + i - k = mod-eq-sub-mod q ∙ mod-eq_of_lt (omega arith) in
      rw (z, y) (ap (λ (x : ℕ). x % k) (omega arith) ∙ mod-eq_of_lt l))
]

place_rest : (k n i : ℕ) → n < k → i < k → (n + ((k - n) % k + i) % k) % k ≡ i
place_rest k n i h l = elim (ℕ_discrete n 0) [
  | yes e ↦ rw e (let z : (k - 0) % k ≡ 0 = mod-eq-sub-mod (omega arith) ∙ ap (λ (x : ℕ). x % k) (omega arith) ∙ mod-eq_of_lt (omega arith) in
      let y : 0 + i ≡ i = omega arith in
      let x : i % k ≡ i = mod-eq_of_lt l in
      rw (z, y, x, y, x))
  | no e ↦ let z : (k - n) % k ≡ k - n = mod-eq_of_lt (omega arith) in
      either (k - n + i) k
      (λ q. let y : (k - n + i) % k ≡ k - n + i = mod-eq_of_lt q in
      rw (z, y) (mod-eq-sub-mod (omega arith) ∙ ap (λ (x : ℕ). x % k) (omega arith) ∙ mod-eq_of_lt l))
      (λ q. let y : (k - n + i) % k ≡ k - n + i - k = mod-eq-sub-mod q ∙ mod-eq_of_lt (omega arith) in
      rw (z, y) (ap (λ (x : ℕ). x % k) (omega arith) ∙ mod-eq_of_lt l))
]

turn_pulls : (k n : ℕ) → n < k → Pulls k (turn k n) (turn k ((k - n) % k))
unfolding turn_moves
turn_pulls k n b = by_bits (turn_moves k n b) turned.fits there none
  where
    turned : Moves k (turn k ((k - n) % k))
    turned = turn_moves k ((k - n) % k) (mod-lt (k - n) (omega arith))

    there : (m : ℕ) → m < 2 ^ k → (i : ℕ) → i < k → bit m i ≡ 1 → (n + i) % k < k → bit (turn k ((k - n) % k) m) ((n + i) % k) ≡ 1
    there m h i l e c = turned.from m h ((n + i) % k) c ∙ ap (λ (x : ℕ). bit m x) (rest_place k n i b l) ∙ e

    none : (m : ℕ) → m < 2 ^ k → (p : ℕ) → p < k → bit (turn k ((k - n) % k) m) p ≡ 1 → (At k (λ i. (n + i) % k) m p → ⊥) → ⊥
    none m h p l e f = f (record {
      at = ((k - n) % k + p) % k;
      at_lt = mod-lt ((k - n) % k + p) (omega arith);
      at_place = place_rest k n p b l;
      at_set = sym (turned.from m h p l) ∙ e;
    })

-- each half apart
halves_pulls : {f g : ℕ → ℕ} → Moves 32 f → Pulls 32 f g → Pulls 64 (halves f) (halves g)
unfolding halves
halves_pulls {f} {g} v p = record {
  fits = λ m h. digits_lt (p.fits (m / 2 ^ 32) (up m h)) (p.fits (m % 2 ^ 32) (down m));
  onto = λ w m h l e. let n = parts (bit_and (f (w / 2 ^ 32)) (m / 2 ^ 32)) (bit_and (f (w % 2 ^ 32)) (m % 2 ^ 32)) (sym (first w m) ∙ e) in
      second w m l ∙ both (p.onto (w / 2 ^ 32) (m / 2 ^ 32) (up w h) (up m l) n.0) (p.onto (w % 2 ^ 32) (m % 2 ^ 32) (down w) (down m) n.1);
  away = λ w m h l e. let n = parts (bit_and (w / 2 ^ 32) (g (m / 2 ^ 32))) (bit_and (w % 2 ^ 32) (g (m % 2 ^ 32))) (sym (second w m l) ∙ e) in
      first w m ∙ both (p.away (w / 2 ^ 32) (m / 2 ^ 32) (up w h) (up m l) n.0) (p.away (w % 2 ^ 32) (m % 2 ^ 32) (down w) (down m) n.1);
}
  where
    up : (w : ℕ) → w < 2 ^ 64 → w / 2 ^ 32 < 2 ^ 32
    up w h = omega arith

    down : (w : ℕ) → w % 2 ^ 32 < 2 ^ 32
    down w = omega arith

    parts : (a b : ℕ) → a * 2 ^ 32 + b ≡ 0 → (a ≡ 0) × (b ≡ 0)
    parts a b e = (omega arith, omega arith)

    both : {a b : ℕ} → a ≡ 0 → b ≡ 0 → a * 2 ^ 32 + b ≡ 0
    both {a} {b} e d = omega arith

    first : (w m : ℕ) → bit_and (f (w / 2 ^ 32) * 2 ^ 32 + f (w % 2 ^ 32)) m ≡ bit_and (f (w / 2 ^ 32)) (m / 2 ^ 32) * 2 ^ 32 + bit_and (f (w % 2 ^ 32)) (m % 2 ^ 32)
    first w m =
        ap (bit_and (f (w / 2 ^ 32) * 2 ^ 32 + f (w % 2 ^ 32))) (sym (split m 32))
        ∙ and_block 32 (f (w / 2 ^ 32)) (m / 2 ^ 32) (f (w % 2 ^ 32)) (m % 2 ^ 32) (v.fits (w % 2 ^ 32) (down w)) (down m)

    second : (w m : ℕ) → m < 2 ^ 64 → bit_and w (g (m / 2 ^ 32) * 2 ^ 32 + g (m % 2 ^ 32)) ≡ bit_and (w / 2 ^ 32) (g (m / 2 ^ 32)) * 2 ^ 32 + bit_and (w % 2 ^ 32) (g (m % 2 ^ 32))
    second w m l =
        ap (λ (x : ℕ). bit_and x (g (m / 2 ^ 32) * 2 ^ 32 + g (m % 2 ^ 32))) (sym (split w 32))
        ∙ and_block 32 (w / 2 ^ 32) (g (m / 2 ^ 32)) (w % 2 ^ 32) (g (m % 2 ^ 32)) (down w) (p.fits (m % 2 ^ 32) (down m))

pulls : (v : ShiftVariant) (n : ℕ) → n < width_of v → Pulls 64 (shifted v n) (pulled_back v n)
unfolding shifted pulled_back
pulls Sll n h = left_pulls 64 n
pulls Slr n h = right_pulls 64 n
pulls Sar n h = arith_pulls 64 n h
pulls Rotr n h = turn_pulls 64 n h
pulls Sll32 n h = halves_pulls (left_moves 32 n) (left_pulls 32 n)
pulls Srl32 n h = halves_pulls (right_moves 32 n) (right_pulls 32 n)
pulls Sra32 n h = halves_pulls (arith_moves 32 n (omega arith)) (arith_pulls 32 n h)
pulls Rotr32 n h = halves_pulls (turn_moves 32 n h) (turn_pulls 32 n h)

-- THE THEOREM: for a valid shift, the shifted word has a bit in the mask exactly where the word has one in the mask pulled back
module _ (s : Shift) (h : Valid s) where
  pub pulled_lt : (m : ℕ) → m < 2 ^ 64 → pulled s m < 2 ^ 64
  pulled_lt = (pulls s.variant s.amount h).fits

  pub pulled-right : (w m : ℕ) → w < 2 ^ 64 → m < 2 ^ 64 → (bit_and (apply_of s w) m ≡ 0 → bit_and w (pulled s m) ≡ 0) × (bit_and w (pulled s m) ≡ 0 → bit_and (apply_of s w) m ≡ 0)
  pulled-right w m a b = ((pulls s.variant s.amount h).onto w m a b, (pulls s.variant s.amount h).away w m a b)
