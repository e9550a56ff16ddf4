-- The flags at destinations, place by place.
--
--   turns f n s         n turns from s on, the i-th of them by f i
--   named_from           how many of n destinations from one on have the flag 1
--
-- Assumes nothing.
use Rattle.std.specs.Prelude.{ℕ, zero, suc, ◌+◌, cond, List, ◌==◌, slice_index}

unfoldable pub turns : (A : Type 0) → (ℕ → A → A) → ℕ → A → A
turns A f zero s = s
turns A f (suc n) s = f n (turns A f n s)

abbrev pub same_of : ℕ → ℕ → ℕ
same_of a b = cond (a == b) 1 0

abbrev pub named_from : List ℕ → List ℕ → ℕ → ℕ → ℕ
named_from flags dsts from n = turns ℕ (λ i c. c + same_of (slice_index flags (slice_index dsts (from + i))) 1) n 0
