-- The replay of checks in memory: what a list of pairs of numbers comes to.
--
--   word_at b i        the i-th number of the bytes, eight to a number, the low one first; 0 past the end
--   store_at m l i     the part of l that begins and ends where m says, at i and i + 1
--   sizes_at, stores_at the counts and the stores that stand in memory
--   State             memory, the destinations, and what was counted
--   step_of            one pair: a number put in its place, or what stands in memory checked
--   after b n         the state after n pairs
--
-- Assumes nothing.
use Rattle.std.specs.Prelude.{ℕ, zero, suc, ◌+◌, ◌*◌, ◌/◌, ◌%◌, ◌^◌, cond, ◌&&◌, List, [], length, replicate, ◌==◌, nat_le, nat_lt, slice_index, slice_range, slice_set}
use Rattle.lower.specs.declared.Sizes.{Sizes}
use Rattle.lower.specs.Stores.{Stores, stores}
use Rattle.lower.specs.Faults.{fault_of}
use Rattle.replay_lower.specs.declared.Tally.{Tally}

abbrev pub word_at : List ℕ → ℕ → ℕ
word_at b i =
    cond (nat_lt i (length b / 8))
    (slice_index b (8 * i) + 256 * slice_index b (8 * i + 1) + 65536 * slice_index b (8 * i + 2) + 16777216 * slice_index b (8 * i + 3) + 4294967296 * slice_index b (8 * i + 4)
    + 1099511627776 * slice_index b (8 * i + 5) + 281474976710656 * slice_index b (8 * i + 6) + 72057594037927936 * slice_index b (8 * i + 7))
    0

abbrev pub part_of : {A : Type 0} → List A → ℕ → ℕ → List A
part_of l begin end = cond (nat_le begin end && nat_le end (length l)) (slice_range l begin end) []

unfoldable pub store_at : {A : Type 0} → List ℕ → List A → ℕ → List A
store_at m l i = part_of l (slice_index m i) (slice_index m (i + 1))

unfoldable pub sizes_at : List ℕ → Sizes
sizes_at m =
    record { wires = slice_index m 1; ands = slice_index m 2; imuls = slice_index m 3; bmuls = slice_index m 4; zeros = slice_index m 5; linears = slice_index m 6 }

unfoldable pub stores_at : List ℕ → List ℕ → Stores
stores_at m d = stores (store_at m m 7) (store_at m m 9) (store_at m m 11) (store_at m m 13) (store_at m m 15) (store_at m m 17) (store_at m d 19) (store_at m m 21)

unfoldable pub checked_at : List ℕ → List ℕ → ℕ
checked_at m d = fault_of (slice_index m 0) (sizes_at m) (stores_at m d)

-- right or wrong, and the answer in the digest
abbrev pub counted : Tally → ℕ → ℕ → Tally
counted t answer expected =
    record {
      right = cond (answer == expected) ((t.right + 1) % 2 ^ 64) t.right;
      wrong = cond (answer == expected) t.wrong ((t.wrong + 1) % 2 ^ 64);
      digest = (t.digest % 1000000007 * 31 + answer) % 1000000007;
    }

pub record State : Type 0 where
  pub memory : List ℕ
  pub dsts : List ℕ
  pub tally : Tally

abbrev pub state_of : List ℕ → List ℕ → Tally → State
state_of m d t = record { memory = m; dsts = d; tally = t }

-- places below 65536 are memory's, the next 65536 the destinations'
abbrev pub step_of : State → ℕ → ℕ → State
step_of s place number =
    cond (place / 65536 == 0) (state_of (slice_set s.memory (place % 65536) number) s.dsts s.tally)
    (cond (place / 65536 == 1) (state_of s.memory (slice_set s.dsts (place % 65536) (number % 65536)) s.tally)
    (state_of s.memory s.dsts (counted s.tally (checked_at s.memory s.dsts) number)))

abbrev pub after : List ℕ → ℕ → State
after b zero = state_of (replicate 8192 0) (replicate 2048 0) (record { right = 0; wrong = 0; digest = 0 })
after b (suc n) = step_of (after b n) (word_at b (2 * n)) (word_at b (2 * n + 1))
