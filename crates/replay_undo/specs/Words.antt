-- Assignments: made, and overwritten where filling back has to make them good.
--
--   word_at kind seed i    the word of wire i: all zeros for kind 0, all ones for kind 1, else of 64 bits that are mixed
--   made_words             the first n words made so
--   disturbed w f ws      the word of wire w becomes another one where its flag f is 0
--   overwritten           so for the destinations of the first n definitions
--   laid_flags             these destinations' flags, laid over others
--
-- Assumes nothing.
use Rattle.std.specs.Prelude.{ℕ, zero, suc, ◌+◌, ◌*◌, ◌%◌, ◌^◌, cond, List, set, ◌==◌, bit_xor, slice_index, slice_set}
use Rattle.replay_undo.specs.Places.{turns, mixed, FIRST}

abbrev pub low_of : ℕ → ℕ → ℕ
low_of seed i = mixed (mixed seed i) FIRST

abbrev pub mid_of : ℕ → ℕ → ℕ
mid_of seed i = mixed (low_of seed i) i

unfoldable pub random_of : ℕ → ℕ → ℕ
random_of seed i = bit_xor (bit_xor (mixed (mid_of seed i) i * 17179869184) (mid_of seed i * 131072)) (low_of seed i)

abbrev pub word_at : ℕ → ℕ → ℕ → ℕ
word_at zero seed i = 0
word_at (suc zero) seed i = 18446744073709551615
word_at (suc (suc kind)) seed i = random_of (mixed seed (suc (suc kind))) i

abbrev pub made_words : ℕ → ℕ → ℕ → List ℕ → List ℕ
made_words kind seed n ws = turns (List ℕ) (λ i l. set l i (word_at kind seed i)) n ws

unfoldable pub disturbed : ℕ → ℕ → List ℕ → List ℕ
disturbed w flag ws = cond (flag == 0) (slice_set ws w ((slice_index ws w + 11400714819323198485) % 2 ^ 64)) ws

abbrev pub overwritten : List ℕ → List ℕ → ℕ → List ℕ → List ℕ
overwritten dsts flags n ws = turns (List ℕ) (λ i l. disturbed (slice_index dsts i) (slice_index flags (slice_index dsts i)) l) n ws

abbrev pub laid_flags : List ℕ → List ℕ → ℕ → List ℕ → List ℕ
laid_flags dsts flags n other = turns (List ℕ) (λ i l. set l (slice_index dsts i) (slice_index flags (slice_index dsts i))) n other
