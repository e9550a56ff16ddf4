-- Loops over operands and over rows of operands, and the bytes that they take. Assumes nothing.
use mathlib.Core.Path.{◌≡◌, refl, sym, ap, ◌∙◌}
use mathlib.Core.Bool.{true, false}
use mathlib.Core.List.{List, ◌∷◌, ◌++◌}
use Prim.Native.Nat.{ℕ, suc, ◌+◌, ◌-◌, ◌*◌, ◌≤◌, ◌<◌}
use native.Mathlib.Nat.{mul-suc}
use native.Mathlib.Omega.{arith}
use lib.ListN.{length, take, drop, get_or, drop_of_length-le}
use lib.Seq.{take-add}
use borrow.Author.Tests.{lt-ltb, le-ltb, ltb-false}
use Rattle.lower.specs.Lists.{some_of}
use Rattle.lower.specs.Stores.{chunks}
use Rattle.lower.proofs.Firsts.{drop_step}
use Rattle.lower.proofs.Somes.{neither}
use Rattle.house_write.specs.Sizes.{handle_size, handles_size, is_wide, MAX_PAYLOAD, rows_wide}

-- ---- operands from a place on

module _ (l : List ℕ) (i : ℕ) where
  pub size_step : i < length l → handles_size (drop i l) ≡ handle_size (get_or l i 0) + handles_size (drop (i + 1) l)
  unfolding handles_size
  size_step h = rw (drop_step l i 0 h)

  pub size_none : length l ≤ i → handles_size (drop i l) ≡ 0
  unfolding handles_size
  size_none h = rw (drop_of_length-le l {i = i} h)

-- ---- the rows that are left after i of n

module _ (k n i : ℕ) (hs : List ℕ) (h : i < n) where
  one_more : n - i ≡ suc (n - (i + 1))
  one_more = omega arith

  pub rows_room : k * (n - i) ≡ k + k * (n - (i + 1))
  rows_room = rw one_more (mul-suc k (n - (i + 1)) ∙ omega arith)

  pub chunks_step : chunks k (n - i) hs ≡ take k hs ∷ chunks k (n - (i + 1)) (drop k hs)
  chunks_step = rw one_more

  pub rows_apart : take (k * (n - i)) hs ≡ take k hs ++ take (k * (n - (i + 1))) (drop k hs)
  rows_apart = rw rows_room (take-add k (k * (n - (i + 1))) hs)

  pub rows_stop : MAX_PAYLOAD < handles_size (take k hs) → rows_wide k (n - i) hs ≡ true
  unfolding rows_wide
  rows_stop p = rw (chunks_step, lt-ltb _ _ p)

  pub rows_go : handles_size (take k hs) ≤ MAX_PAYLOAD → rows_wide k (n - i) hs ≡ rows_wide k (n - (i + 1)) (drop k hs)
  unfolding rows_wide
  rows_go p = rw (chunks_step, le-ltb _ _ p)

  -- no row is wide: the first is not, and none of those that are left
  pub rows_narrow : rows_wide k (n - i) hs ≡ false → (handles_size (take k hs) ≤ MAX_PAYLOAD) × (rows_wide k (n - (i + 1)) (drop k hs) ≡ false)
  unfolding rows_wide
  rows_narrow e =
      let b = neither (is_wide (handles_size (take k hs))) _ (sym (ap (some_of (λ (r : List ℕ). is_wide (handles_size r))) chunks_step) ∙ e) in
      (ltb-false _ _ b.0, b.1)

pub rows_none : (k : ℕ) (hs : List ℕ) → rows_wide k 0 hs ≡ false
unfolding rows_wide
rows_none k hs = refl
