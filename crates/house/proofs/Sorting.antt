-- The records of a file that was read can be written, and take as many bytes in tag order as before. Assumes nothing.
use mathlib.Core.Path.{◌≡◌, refl, ap}
use mathlib.Core.Bool.{Bool, true, false, cond}
use mathlib.Core.List.{List, [], ◌∷◌, ◌++◌}
use Prim.Native.Nat.{ℕ, zero, suc, ◌+◌, ◌≤◌, ◌<◌}
use native.Mathlib.Omega.{arith}
use lib.Dec.{eqb}
use borrow.Author.Tests.{le-ltb}
use Rattle.lower.specs.Lists.{All, done, more, sum_of, some_of}
use Rattle.lower.proofs.Laws.{all_left, all_right, all_both, all_imp}
use Rattle.lower.proofs.Firsts.{sum-append}
use Rattle.lower.proofs.Somes.{all_none}
use Rattle.house_file.specs.Format.{le16, Entry, LINEAR, payload_size, field_bytes, entry_bytes, list_bytes, file_bytes, file_size, of_kind, EntryOk}
use Rattle.house_file.proofs.Sizes.{payload_size_lem}
use Rattle.house_read.proofs.Sorted.{in_tag_order}
use Rattle.house_write.specs.Sizes.{MAX_PAYLOAD, is_wide}

abbrev Byte : ℕ → Type 0
Byte b = b < 256

abbrev Narrow : Entry → Type 0
Narrow e = payload_size e ≤ MAX_PAYLOAD

-- ---- a length of two bytes is at most 65,535

second : {x y z : ℕ} {l : List ℕ} → All Byte (x ∷ y ∷ z ∷ l) → Byte z
second (more a (more b (more c h))) = c

entry_narrow : (e : Entry) → All Byte (entry_bytes e) → Narrow e
unfolding entry_bytes
entry_narrow e h = omega (arith, second h, payload_size_lem e)

entries_narrow : (es : List Entry) → All Byte (list_bytes es) → All Narrow es
unfolding list_bytes
entries_narrow [] h = done
entries_narrow (e ∷ es) h = more (entry_narrow e (all_left Byte (entry_bytes e) (list_bytes es) h)) (entries_narrow es (all_right Byte (entry_bytes e) (list_bytes es) h))

pub file_narrow : (w : ℕ) (es : List Entry) → All Byte (file_bytes w es) → All Narrow es
unfolding file_bytes
file_narrow w es h =
    entries_narrow es (all_left Byte (list_bytes es) (field_bytes 7 []) (all_right Byte (field_bytes 1 (le16 w)) (list_bytes es ++ field_bytes 7 []) h))

-- ---- in tag order

module _ (P : Entry → Type 0) where
  all_kind : (kind : ℕ) (es : List Entry) → All P es → All P (of_kind kind es)
  all_kind kind [] done = done
  all_kind kind (e ∷ es) (more p h) = go (eqb e.tag kind) (all_kind kind es h)
    where
      go : (b : Bool) → All P (of_kind kind es) → All P (cond b (e ∷ of_kind kind es) (of_kind kind es))
      go true k = more p k
      go false k = k

  all_sorted : (es : List Entry) → All P es → All P (in_tag_order es)
  unfolding in_tag_order
  all_sorted es h =
      all_both P (all_kind 2 es h) (all_both P (all_kind 3 es h) (all_both P (all_kind 4 es h) (all_both P (all_kind 5 es h) (all_kind LINEAR es h))))

pub none-wide : (es : List Entry) → All Narrow es → some_of (λ (e : Entry). is_wide (payload_size e)) (in_tag_order es) ≡ false
none-wide es h = all_none (λ (e : Entry). is_wide (payload_size e)) (in_tag_order es) (all_imp (λ e p. le-ltb MAX_PAYLOAD (payload_size e) p) (in_tag_order es) (all_sorted Narrow es h))

module _ (g : Entry → ℕ) where
  sum_kind : (kind : ℕ) (e : Entry) (es : List Entry) → sum_of g (of_kind kind (e ∷ es)) ≡ cond (eqb e.tag kind) (g e) 0 + sum_of g (of_kind kind es)
  sum_kind kind e es = go (eqb e.tag kind)
    where
      go : (b : Bool) → sum_of g (cond b (e ∷ of_kind kind es) (of_kind kind es)) ≡ cond b (g e) 0 + sum_of g (of_kind kind es)
      go true = refl
      go false = omega arith

  one_kind : (tag x : ℕ) → 2 ≤ tag → tag ≤ 6
      → cond (eqb tag 2) x 0 + (cond (eqb tag 3) x 0 + (cond (eqb tag 4) x 0 + (cond (eqb tag 5) x 0 + cond (eqb tag 6) x 0))) ≡ x
  one_kind zero x l h = absurd (omega (arith, l))
  one_kind (suc zero) x l h = absurd (omega (arith, l))
  one_kind (suc (suc zero)) x l h = omega arith
  one_kind (suc (suc (suc zero))) x l h = omega arith
  one_kind (suc (suc (suc (suc zero)))) x l h = omega arith
  one_kind (suc (suc (suc (suc (suc zero))))) x l h = omega arith
  one_kind (suc (suc (suc (suc (suc (suc zero)))))) x l h = omega arith
  one_kind (suc (suc (suc (suc (suc (suc (suc n))))))) x l h = absurd (omega (arith, h))

  kinds_sum : (w : ℕ) (es : List Entry) → All (EntryOk w) es
      → sum_of g (of_kind 2 es) + (sum_of g (of_kind 3 es) + (sum_of g (of_kind 4 es) + (sum_of g (of_kind 5 es) + sum_of g (of_kind LINEAR es)))) ≡ sum_of g es
  kinds_sum w [] done = omega arith
  kinds_sum w (e ∷ es) (more k ks) =
      omega (
        arith,
        sum_kind 2 e es,
        sum_kind 3 e es,
        sum_kind 4 e es,
        sum_kind 5 e es,
        sum_kind LINEAR e es,
        one_kind e.tag (g e) k.low k.high,
        kinds_sum w es ks,
      )

  sorted_sum : (w : ℕ) (es : List Entry) → All (EntryOk w) es → sum_of g (in_tag_order es) ≡ sum_of g es
  unfolding in_tag_order
  sorted_sum w es h =
      let a = of_kind 2 es in
      let i = of_kind 3 es in
      let b = of_kind 4 es in
      let o = of_kind 5 es in
      let d = of_kind LINEAR es in
      omega (
        arith,
        sum-append g a (i ++ (b ++ (o ++ d))),
        sum-append g i (b ++ (o ++ d)),
        sum-append g b (o ++ d),
        sum-append g o d,
        kinds_sum w es h,
      )

pub size_sorted : (w : ℕ) (es : List Entry) → All (EntryOk w) es → file_size (in_tag_order es) ≡ file_size es
unfolding file_size
size_sorted w es h = ap (λ (k : ℕ). 8 + k) (sorted_sum (λ (e : Entry). 3 + payload_size e) w es h)
