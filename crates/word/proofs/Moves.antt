-- Each shift moves bits: bit i of the shifted word is the bit of the word at the place `s i`, or 0 where that is past the word.
-- Assumes nothing.
use mathlib.Core.Path.{◌≡◌, refl, sym, ap, ◌∙◌, subst}
use mathlib.Core.Bool.{cond}
use Prim.Native.Nat.{ℕ, suc, ◌+◌, ◌-◌, ◌*◌, ◌/◌, ◌%◌, ◌^◌, ◌≤◌, ◌<◌, min}
use native.Mathlib.Nat.{mod-lt, lt_of_le_of_lt, div-le_self, add-zero, zero-add, zero-div, mod-eq_of_lt, mod-eq-sub-mod, add-sub_of_le, two-pow-succ}
use native.Mathlib.Omega.{arith}
use native.Mathlib.Decide.{dec_lt}
use lib.Dec.{ltb}
use lib.Pow.{pow-add, pow_pos, shr_lt, ones_sub-lt}
use lib.Arith.{digits_lt}
use borrow.Author.Tests.{lt-ltb, le-ltb}
use Rattle.word.specs.Word.{left, right, signed, floor_div, unsigned, arith_right, turn, halves}
use Rattle.word.proofs.Bits.{bit, bit_lt, bit_shr, bit_none, bit_mod, bit_low, bit_high, bit_not}

-- f is a map of numbers of k bits that puts the bit at `place i` to i
pub record Moves (k : ℕ) (f : ℕ → ℕ) : Type 0 where
  pub place : ℕ → ℕ
  pub fits : (w : ℕ) → w < 2 ^ k → f w < 2 ^ k
  pub from : (w : ℕ) → w < 2 ^ k → (i : ℕ) → i < k → bit (f w) i ≡ bit w (place i)

-- two numbers, one way or the other
pub either {ℓ} : {A : Type ℓ} (a b : ℕ) → (a < b → A) → (b ≤ a → A) → A
either a b f g = elim (dec_lt a b) [ yes h ↦ f h | no h ↦ g (omega arith) ]

pub bit_of-zero : (i : ℕ) → bit 0 i ≡ 0
bit_of-zero i = ap (λ (x : ℕ). x % 2) (zero-div (2 ^ i))

unfoldable pub left_moves : (k n : ℕ) → Moves k (left k n)
left_moves k n = record {
  place = λ i. cond (ltb i n) k (i - n);
  fits = λ w h. mod-lt (w * 2 ^ n) (pow_pos k);
  from = λ w h i l. bit_mod (w * 2 ^ n) k i l ∙ ap (λ (x : ℕ). bit x i) (sym (add-zero (w * 2 ^ n))) ∙ either i n
      (λ (p : i < n). bit_low w n i (pow_pos n) p ∙ bit_of-zero i ∙ sym (bit_none k k h (omega arith)) ∙ ap (λ (x : ℕ). bit w x) (sym (rw (lt-ltb i n p))))
      (λ (p : n ≤ i). ap (λ (x : ℕ). bit (w * 2 ^ n + 0) x) (sym (add-sub_of_le p)) ∙ bit_high w n (i - n) (pow_pos n) ∙ ap (λ (x : ℕ). bit w x) (sym (rw (le-ltb i n p))));
}

unfoldable pub right_moves : (k n : ℕ) → Moves k (right n)
right_moves k n = record {
  place = λ i. n + i;
  fits = λ w h. lt_of_le_of_lt (div-le_self w (2 ^ n)) h;
  from = λ w h i l. bit_shr w n i;
}

pub double : (k : ℕ) → 0 < k → 2 ^ k ≡ 2 ^ (k - 1) + 2 ^ (k - 1)
double k h = ap (λ (x : ℕ). 2 ^ x) e ∙ two-pow-succ (k - 1)
  where
    e : k ≡ suc (k - 1)
    e = omega arith

pub arith-low : (k n w : ℕ) → w < 2 ^ (k - 1) → arith_right k n w ≡ w / 2 ^ n
unfolding arith_right signed floor_div unsigned
arith-low k n w h = rw (lt-ltb w (2 ^ (k - 1)) h)

pub arith-high : (k n w : ℕ) → 2 ^ (k - 1) ≤ w → arith_right k n w ≡ 2 ^ k - 1 - (2 ^ k - 1 - w) / 2 ^ n
unfolding arith_right signed floor_div unsigned
arith-high k n w h = rw (le-ltb w (2 ^ (k - 1)) h)

unfoldable pub arith_moves : (k n : ℕ) → 0 < k → Moves k (arith_right k n)
arith_moves k n z = record {
  place = λ i. min (n + i) (k - 1);
  fits = λ w h. either w (2 ^ (k - 1))
      (λ p. subst (λ (x : ℕ). x < 2 ^ k) (sym (arith-low k n w p)) (lt_of_le_of_lt (div-le_self w (2 ^ n)) h))
      (λ p. subst (λ (x : ℕ). x < 2 ^ k) (sym (arith-high k n w p)) (ones_sub-lt k ((2 ^ k - 1 - w) / 2 ^ n)));
  from = λ w h i l. either w (2 ^ (k - 1)) (low w h i l) (high w h i l);
}
  where
    low : (w : ℕ) → w < 2 ^ k → (i : ℕ) → i < k → w < 2 ^ (k - 1) → bit (arith_right k n w) i ≡ bit w (min (n + i) (k - 1))
    low w h i l p =
        ap (λ (x : ℕ). bit x i) (arith-low k n w p) ∙ bit_shr w n i ∙ either (n + i) (k - 1)
        (λ q. ap (λ (x : ℕ). bit w x) (omega arith))
        (λ q. bit_none (k - 1) (n + i) p q ∙ sym (bit_none (k - 1) (k - 1) p (omega arith)) ∙ ap (λ (x : ℕ). bit w x) (omega arith))

    high : (w : ℕ) → w < 2 ^ k → (i : ℕ) → i < k → 2 ^ (k - 1) ≤ w → bit (arith_right k n w) i ≡ bit w (min (n + i) (k - 1))
    high w h i l p =
        ap (λ (x : ℕ). bit x i) (arith-high k n w p)
        ∙ bit_not k ((2 ^ k - 1 - w) / 2 ^ n) i (lt_of_le_of_lt (div-le_self (2 ^ k - 1 - w) (2 ^ n)) (ones_sub-lt k w)) l
        ∙ ap (λ (x : ℕ). 1 - x) (bit_shr (2 ^ k - 1 - w) n i) ∙ either (n + i) k
        (λ q. let e : min (n + i) (k - 1) ≡ n + i = omega arith in
        omega (arith, bit_not k w (n + i) h q, bit_lt w (n + i), ap (λ (x : ℕ). bit w x) e))
        (λ q. let e : min (n + i) (k - 1) ≡ k - 1 = omega arith in
        let small : 2 ^ k - 1 - w < 2 ^ (k - 1) = omega (arith, double k z) in
        omega (
          arith,
          bit_none k (n + i) (ones_sub-lt k w) q,
          bit_not k w (k - 1) h (omega arith),
          bit_none (k - 1) (k - 1) small (omega arith),
          bit_lt w (k - 1),
          ap (λ (x : ℕ). bit w x) e,
        ))

unfoldable pub turn_moves : (k n : ℕ) → n < k → Moves k (turn k n)
unfolding turn
turn_moves k n z = record {
  place = λ i. (n + i) % k;
  fits = λ w h. subst (λ (x : ℕ). turn k n w < 2 ^ x) e (subst (λ (x : ℕ). turn k n w < x) (sym (pow-add 2 n (k - n))) (digits_lt (mod-lt w (pow_pos n)) (top w h)));
  from = λ w h i l. either (n + i) k
      (λ q. bit_low (w % 2 ^ n) (k - n) i (top w h) (omega arith) ∙ bit_shr w n i ∙ ap (λ (x : ℕ). bit w x) (sym (mod-eq_of_lt q)))
      (λ q. let a : i ≡ (k - n) + (n + i - k) = omega arith in
      let b : n + i - k < k = omega arith in
      ap (λ (x : ℕ). bit (turn k n w) x) a ∙ bit_high (w % 2 ^ n) (k - n) (n + i - k) (top w h)
      ∙ bit_mod w n (n + i - k) (omega arith) ∙ ap (λ (x : ℕ). bit w x) (sym (mod-eq-sub-mod q ∙ mod-eq_of_lt b)));
}
  where
    e : n + (k - n) ≡ k
    e = omega arith

    top : (w : ℕ) → w < 2 ^ k → w / 2 ^ n < 2 ^ (k - n)
    top w h = shr_lt (k - n) n (subst (λ (x : ℕ). w < 2 ^ x) (sym (omega arith)) h)

-- a map of the halves
pub halves_moves : {f : ℕ → ℕ} → Moves 32 f → Moves 64 (halves f)
unfolding halves
halves_moves {f} m = record {
  place = λ i. cond (ltb i 32) (cond (ltb (m.place i) 32) (0 + m.place i) 64) (cond (ltb (m.place (i - 32)) 32) (32 + m.place (i - 32)) 64);
  fits = λ w h. digits_lt (m.fits (w / 2 ^ 32) (up w h)) (m.fits (w % 2 ^ 32) (down w));
  from = λ w h i l. either i 32
      (λ p. rw (lt-ltb i 32 p) (bit_low (f (w / 2 ^ 32)) 32 i (m.fits (w % 2 ^ 32) (down w)) p ∙ m.from (w % 2 ^ 32) (down w) i p ∙ put w h 0 (m.place i) (w % 2 ^ 32) (down w) (λ q. bit_mod w 32 (m.place i) q ∙ ap (λ (x : ℕ). bit w x) (sym (zero-add (m.place i))))))
      (λ p. rw (le-ltb i 32 p)
      (ap (λ (x : ℕ). bit (halves f w) x) (sym (add-sub_of_le p)) ∙ bit_high (f (w / 2 ^ 32)) 32 (i - 32) (m.fits (w % 2 ^ 32) (down w))
      ∙ m.from (w / 2 ^ 32) (up w h) (i - 32) (omega arith) ∙ put w h 32 (m.place (i - 32)) (w / 2 ^ 32) (up w h) (λ q. bit_shr w 32 (m.place (i - 32)))));
}
  where
    up : (w : ℕ) → w < 2 ^ 64 → w / 2 ^ 32 < 2 ^ 32
    up w h = omega arith

    down : (w : ℕ) → w % 2 ^ 32 < 2 ^ 32
    down w = omega arith

    -- bit j of a half v that stands at b in w
    put : (w : ℕ) → w < 2 ^ 64 → (b j v : ℕ) → v < 2 ^ 32 → (j < 32 → bit v j ≡ bit w (b + j)) → bit v j ≡ bit w (cond (ltb j 32) (b + j) 64)
    put w h b j v l e = either j 32
        (λ q. rw (lt-ltb j 32 q) (e q))
        (λ q. rw (le-ltb j 32 q) (bit_none 32 j l q ∙ sym (bit_none 64 64 h (omega arith))))

-- one map after another
pub after : {f g : ℕ → ℕ} → Moves 64 f → Moves 64 g → Moves 64 (λ w. g (f w))
after {f} {g} m n = record {
  place = λ i. cond (ltb (n.place i) 64) (m.place (n.place i)) 64;
  fits = λ w h. n.fits (f w) (m.fits w h);
  from = λ w h i l. n.from (f w) (m.fits w h) i l ∙ either (n.place i) 64
      (λ p. rw (lt-ltb (n.place i) 64 p) (m.from w h (n.place i) p))
      (λ p. rw (le-ltb (n.place i) 64 p) (bit_none 64 (n.place i) (m.fits w h) p ∙ sym (bit_none 64 64 h (omega arith))));
}

pub none_moves : Moves 64 (λ w. 0)
none_moves = record { place = λ i. 64; fits = λ w h. pow_pos 64; from = λ w h i l. bit_of-zero i ∙ sym (bit_none 64 64 h (omega arith)) }

pub same_moves : Moves 64 (λ w. w)
same_moves = record { place = λ i. i; fits = λ w h. h; from = λ w h i l. refl }
