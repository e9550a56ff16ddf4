-- Stores, place by place.
--
--   turns f n s         n turns from s on, the i-th of them by f i
--   same_of a b          1 where the two are the same, else 0
--   blank_defs           the array of records before anything is put there
--
-- Assumes nothing.
use Rattle.std.specs.Prelude.{ℕ, zero, suc, cond, List, replicate, ◌==◌}
use Rattle.records.specs.declared.Definition.{Definition}
use Rattle.replaying.specs.Places.{UNTOUCHED}

unfoldable pub turns : (A : Type 0) → (ℕ → A → A) → ℕ → A → A
turns A f zero s = s
turns A f (suc n) s = f n (turns A f n s)

abbrev pub same_of : ℕ → ℕ → ℕ
same_of a b = cond (a == b) 1 0

abbrev pub blank_defs : List Definition
blank_defs = replicate 1024 (record { rhs = UNTOUCHED; dst = UNTOUCHED })
