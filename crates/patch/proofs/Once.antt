-- The next term that a mask takes in something of is one. Assumes nothing.
use mathlib.Core.Path.{◌≡◌}
use Prim.Native.Nat.{ℕ, ◌<◌}
use native.Mathlib.Omega.{arith}
use native.Mathlib.Decide.{dec_lt}
use mathlib.Core.List.{List}
use Rattle.patch.specs.Spelling.{NextLive}

module _ (ms : List ℕ) (from k : ℕ) where
  -- no place before one that is told is told
  first : (r s : ℕ) → NextLive ms from k r → NextLive ms from k s → r < s → ⊥
  first r s a b h = a.3 (omega (arith, h, b.1)) (b.2 r a.0 h)

  pub next_live_once : (r s : ℕ) → NextLive ms from k r → NextLive ms from k s → r ≡ s
  next_live_once r s a b = elim (dec_lt r s) [ yes h ↦ absurd (first r s a b h) | no h ↦ elim (dec_lt s r) [ yes g ↦ absurd (first s r b a g) | no g ↦ omega arith ] ]
