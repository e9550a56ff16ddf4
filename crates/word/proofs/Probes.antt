-- Two maps that move bits are equal if they agree on seven words: bit i of the first six is a digit of i, so that what a map makes of
-- them says where each bit comes from, and the seventh is all ones, which says whether it comes from anywhere. Assumes nothing.
use mathlib.Core.Path.{◌≡◌, sym, ap, ap₂, ◌∙◌, subst}
use mathlib.Core.Bool.{Bool, true, false, ◌&&◌}
use Prim.Native.Nat.{ℕ, zero, suc, ◌+◌, ◌%◌, ◌^◌, ◌<◌}
use native.Mathlib.Nat.{le_of_suc-le-suc, zero-div}
use native.Mathlib.Omega.{arith}
use lib.Dec.{T, ltb, eqb, eqb→eq, lit<}
use mathlib.Core.List.{List, [], ◌∷◌}
use lib.ListN.{length, get_or}
use lib.Bits.{bit_xor, xor_lt}
use Rattle.word.proofs.Bits.{bit, ext, bit_none, bit_xor_lem}
use Rattle.word.proofs.Moves.{Moves, either}

-- the test f passes at each number below n
abbrev pub upto : (ℕ → Bool) → ℕ → Bool
upto f zero = true
upto f (suc n) = f n && upto f n

pub and_left : (a b : Bool) → T (a && b) → T a
and_left true b t = tt
and_left false b t = t

pub and_right : (a b : Bool) → T (a && b) → T b
and_right true b t = t
and_right false b t = absurd t

pub below : (f : ℕ → Bool) (n : ℕ) → T (upto f n) → (i : ℕ) → i < n → T (f i)
below f zero t i h = elim h [ ]
below f (suc n) t i h = either i n
    (λ p. below f n (and_right (f n) (upto f n) t) i p)
    (λ p. let e : n ≡ i = omega arith in subst (λ (x : ℕ). T (f x)) e (and_left (f n) (upto f n) t))

-- the test f passes at each number of a list
abbrev pub every : (ℕ → Bool) → List ℕ → Bool
every f [] = true
every f (x ∷ xs) = f x && every f xs

every_at : (f : ℕ → Bool) (xs : List ℕ) → T (every f xs) → (b : ℕ) → b < length xs → T (f (get_or xs b 0))
every_at f [] t b h = elim h [ ]
every_at f (x ∷ xs) t zero h = and_left (f x) (every f xs) t
every_at f (x ∷ xs) t (suc b) h = every_at f xs (and_right (f x) (every f xs) t) b (le_of_suc-le-suc h)

abbrev pub probes : List ℕ
probes =
    0xaaaa_aaaa_aaaa_aaaa ∷ 0xcccc_cccc_cccc_cccc ∷ 0xf0f0_f0f0_f0f0_f0f0 ∷ 0xff00_ff00_ff00_ff00 ∷ 0xffff_0000_ffff_0000 ∷ 0xffff_ffff_0000_0000
    ∷ 0xffff_ffff_ffff_ffff ∷ []

-- bit j of `probe b` is digit b of 64 + j
probe : ℕ → ℕ
probe b = get_or probes b 0

abbrev pub agree : (ℕ → ℕ) → (ℕ → ℕ) → Bool
agree f g = every (λ w. eqb (f w) (g w)) probes

digit : (j : ℕ) → j < 64 → (b : ℕ) → b < 7 → bit (probe b) j ≡ bit (64 + j) b
unfolding probe
digit j h b l =
    eqb→eq (bit (probe b) j) (bit (64 + j) b)
    (below (λ b. eqb (bit (probe b) j) (bit (64 + j) b)) 7 (below (λ j. upto (λ b. eqb (bit (probe b) j) (bit (64 + j) b)) 7) 64 tt j h) b l)

probe_lt : (b : ℕ) → b < 7 → probe b < 2 ^ 64
unfolding probe
probe_lt b l = lit< (below (λ b. ltb (probe b) (2 ^ 64)) 7 tt b l)

-- two places of a word that no probe tells apart
told : (a c : ℕ) → ((b : ℕ) → b < 7 → bit (probe b) a ≡ bit (probe b) c) → (w : ℕ) → w < 2 ^ 64 → bit w a ≡ bit w c
told a c e w h = either a 64
    (λ p. either c 64
    (λ q. let s : 64 + a ≡ 64 + c = ext 7 (omega arith) (omega arith) (λ b l. sym (digit a p b l) ∙ e b l ∙ digit c q b l) in
    ap (λ (x : ℕ). bit w x) (omega arith))
    (λ q. let z : bit (64 + a) 6 ≡ 0 = sym (digit a p 6 (lit< tt)) ∙ e 6 (lit< tt) ∙ bit_none 64 c (probe_lt 6 (lit< tt)) q in absurd (omega arith)))
    (λ p. either c 64
    (λ q. let z : bit (64 + c) 6 ≡ 0 = sym (digit c q 6 (lit< tt)) ∙ sym (e 6 (lit< tt)) ∙ bit_none 64 a (probe_lt 6 (lit< tt)) p in absurd (omega arith))
    (λ q. bit_none 64 a h p ∙ sym (bit_none 64 c h q)))

pub same : {f g : ℕ → ℕ} → Moves 64 f → Moves 64 g → T (agree f g) → (w : ℕ) → w < 2 ^ 64 → f w ≡ g w
unfolding probe
same {f} {g} m n a w h =
    ext 64 (m.fits w h) (n.fits w h) (λ i l. m.from w h i l ∙ told (m.place i) (n.place i) (λ b q. probed i l b q) w h ∙ sym (n.from w h i l))
  where
    probed : (i : ℕ) → i < 64 → (b : ℕ) → b < 7 → bit (probe b) (m.place i) ≡ bit (probe b) (n.place i)
    probed i l b q =
        sym (m.from (probe b) (probe_lt b q) i l)
        ∙ ap (λ (x : ℕ). bit x i) (eqb→eq (f (probe b)) (g (probe b)) (every_at (λ w. eqb (f w) (g w)) probes a b q))
        ∙ n.from (probe b) (probe_lt b q) i l

-- xor of two words goes through a map that moves bits
pub xor_through : {f : ℕ → ℕ} → Moves 64 f → (a b : ℕ) → a < 2 ^ 64 → b < 2 ^ 64 → f (bit_xor a b) ≡ bit_xor (f a) (f b)
xor_through {f} m a b h l =
    ext 64 (m.fits (bit_xor a b) (xor_lt 64 a b h l)) (xor_lt 64 (f a) (f b) (m.fits a h) (m.fits b l))
    (λ i p. m.from (bit_xor a b) (xor_lt 64 a b h l) i p ∙ bit_xor_lem a b (m.place i)
    ∙ ap₂ (λ (x y : ℕ). bit_xor x y) (sym (m.from a h i p)) (sym (m.from b l i p)) ∙ sym (bit_xor_lem (f a) (f b) i))

-- 0 stays 0
pub zero-through : {f : ℕ → ℕ} → Moves 64 f → f 0 ≡ 0
zero-through {f} m =
    ext 64 (m.fits 0 (lit< tt)) (lit< tt)
    (λ i p. m.from 0 (lit< tt) i p ∙ ap (λ (x : ℕ). x % 2) (zero-div (2 ^ m.place i) ∙ sym (zero-div (2 ^ i))))
