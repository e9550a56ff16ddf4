-- Bytes at an offset: a list has another one at a place. Assumes nothing.
use mathlib.Core.Path.{◌≡◌, sym, ap, ◌∙◌}
use mathlib.Core.List.{List, [], ◌∷◌, ◌++◌, append_assoc}
use Prim.Native.Nat.{ℕ, suc, ◌+◌, ◌≤◌}
use native.Mathlib.Nat.{add-zero}
use native.Mathlib.Omega.{arith}
use lib.ListN.{length, get_or, drop, length-append, drop_of_length-le}
use lib.Seq.{get_or-append_seam, drop-cons}
use Rattle.house_file.specs.Format.{le16}
use Rattle.house_file.specs.Decoding.{u16_at}

unfoldable pub Has : List ℕ → ℕ → List ℕ → Type 0
Has s at [] = at ≤ length s
Has s at (x ∷ xs) = (get_or s at 0 ≡ x) × Has s (at + 1) xs

module _ (s : List ℕ) where
  pub has_fits : (at : ℕ) (xs : List ℕ) → Has s at xs → at + length xs ≤ length s
  unfolding Has
  has_fits at [] h = omega (arith, h)
  has_fits at (x ∷ xs) h = omega (arith, has_fits (at + 1) xs h.1)

  pub has_left : (at : ℕ) (xs ys : List ℕ) → Has s at (xs ++ ys) → Has s at xs
  unfolding Has
  has_left at [] ys h = omega (arith, has_fits at ys h)
  has_left at (x ∷ xs) ys h = (h.0, has_left (at + 1) xs ys h.1)

  pub has_right : (at : ℕ) (xs ys : List ℕ) → Has s at (xs ++ ys) → Has s (at + length xs) ys
  unfolding Has
  has_right at [] ys h = rw add-zero h
  has_right at (x ∷ xs) ys h =
      let e : at + 1 + length xs ≡ at + suc (length xs) = omega arith in
      rw e at (has_right (at + 1) xs ys h.1)

  pub has_both : (at : ℕ) (xs ys : List ℕ) → Has s at xs → Has s (at + length xs) ys → Has s at (xs ++ ys)
  unfolding Has
  has_both at [] ys h k = rw add-zero at k
  has_both at (x ∷ xs) ys h k =
      let e : at + suc (length xs) ≡ at + 1 + length xs = omega arith in
      (h.0, has_both (at + 1) xs ys h.1 (rw e at k))

  pub has_head : (at x : ℕ) (xs : List ℕ) → Has s at (x ∷ xs) → get_or s at 0 ≡ x
  unfolding Has
  has_head at x xs h = h.0

  pub has_tail : (at x : ℕ) (xs : List ℕ) → Has s at (x ∷ xs) → Has s (at + 1) xs
  unfolding Has
  has_tail at x xs h = h.1

  pub has_num : (at n : ℕ) (xs : List ℕ) → Has s at (le16 n ++ xs) → u16_at s at ≡ n
  unfolding u16_at Has
  has_num at n xs h = omega (arith, h.0, h.1.0)

  pub has_after : (at n : ℕ) (xs : List ℕ) → Has s at (le16 n ++ xs) → Has s (at + 2) xs
  has_after at n xs h = has_right at (le16 n) xs h

pub has_whole : (p xs : List ℕ) → Has (p ++ xs) (length p) xs
unfolding Has
has_whole p [] = omega (arith, length-append p [])
has_whole p (x ∷ xs) =
    let e : length (p ++ (x ∷ [])) ≡ length p + 1 = length-append p (x ∷ []) in
    let q : (p ++ (x ∷ [])) ++ xs ≡ p ++ x ∷ xs = append_assoc p (x ∷ []) xs in
    (get_or-append_seam p x xs 0, rw (e, q) at (has_whole (p ++ (x ∷ [])) xs))

-- what has all of a list of its own length is that list
has_drop : (s : List ℕ) (at : ℕ) (xs : List ℕ) → Has s at xs → length s ≡ at + length xs → drop at s ≡ xs
unfolding Has
has_drop s at [] h e = drop_of_length-le s {i = at} (omega (arith, e))
has_drop s at (x ∷ xs) h e =
    let k = has_fits s at (x ∷ xs) (h.0, h.1) in
    let m : length s ≡ at + 1 + length xs = omega arith in
    let i : at + 1 ≡ suc at = omega arith in
    drop-cons s at 0 (omega arith) ∙ rw h.0 (ap (λ (l : List ℕ). x ∷ l) (ap (λ (j : ℕ). drop j s) (sym i) ∙ has_drop s (at + 1) xs h.1 m))

pub has_all : (s xs : List ℕ) → Has s 0 xs → length s ≡ length xs → s ≡ xs
has_all s xs h e = has_drop s 0 xs h (omega (arith, e))
