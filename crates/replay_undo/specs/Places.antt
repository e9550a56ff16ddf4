-- Stores, place by place.
--
--   turns f n s         n turns from s on, the i-th of them by f i
--   same_places          how many of n places from one on are the same in both lists
--   mixed, digest_of     the digest of numbers
--   row_mixed            the digest of a row of k numbers that begins at a place
--   rows_mixed           the sum of the digests of some rows, one after the other from a place on
--   same_rows            how many numbers these rows have, where both lists come to the same two sums, else 0
--
-- Assumes nothing.
use Rattle.std.specs.Prelude.{ℕ, zero, suc, ◌+◌, ◌*◌, ◌%◌, ◌^◌, cond, ◌&&◌, List, ◌==◌, bit_xor, slice_index}

unfoldable pub turns : (A : Type 0) → (ℕ → A → A) → ℕ → A → A
turns A f zero s = s
turns A f (suc n) s = f n (turns A f n s)

abbrev pub same_of : ℕ → ℕ → ℕ
same_of a b = cond (a == b) 1 0

abbrev pub same_places : List ℕ → List ℕ → ℕ → ℕ → ℕ
same_places a b from n = turns ℕ (λ i c. c + same_of (slice_index a (from + i)) (slice_index b (from + i))) n 0

abbrev pub mixed : ℕ → ℕ → ℕ
mixed digest x = (bit_xor digest x % 1000000007 * 48271 + 11) % 1000000007

abbrev pub digest_of : List ℕ → ℕ → ℕ → ℕ
digest_of l n start = turns ℕ (λ i d. mixed d (slice_index l i)) n start

abbrev pub row_mixed : List ℕ → ℕ → ℕ → ℕ → ℕ
row_mixed l at k start = mixed (turns ℕ (λ i d. mixed d (slice_index l (at + i))) k start) start

abbrev pub rows_mixed : List ℕ → ℕ → ℕ → ℕ → ℕ → ℕ
rows_mixed l at rows k start = turns ℕ (λ i s. (s + row_mixed l (at + i * k) k start) % 2 ^ 64) rows 0

abbrev pub FIRST : ℕ
FIRST = 738274635291

abbrev pub SECOND : ℕ
SECOND = 915283746102

unfoldable pub same_rows : List ℕ → List ℕ → ℕ → ℕ → ℕ → ℕ
same_rows a b at rows k =
    cond
    (rows_mixed a at rows k FIRST == rows_mixed b at rows k FIRST && rows_mixed a at rows k SECOND == rows_mixed b at rows k SECOND)
    (rows * k)
    0
