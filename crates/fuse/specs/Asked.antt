-- What the words behind the program's name ask for.
--
--   slots_of w        the slots that a word names, if it does
--   file_of, committed_of    the fused file, or the committed wires, with so many slots; nothing where there are none
--   asked_by n w v    of n words with the program's name, the first behind it being w and the second v
--
-- Assumes nothing.
use lib.Chars.{codes}
use Rattle.std.specs.Prelude.{ℕ, true, false, cond, List, eqb, ltb, bytes_eq, Option, Some, None}
use Rattle.fuse.specs.declared.asked.Asked.{Asked}

abbrev pub slots_of : List ℕ → Option ℕ
slots_of w = cond (bytes_eq w (codes "1")) (Some 1) (cond (bytes_eq w (codes "2")) (Some 2) None)

abbrev pub file_of : Option ℕ → Option Asked
file_of (Some slots) = Some (record { slots = slots; is_committed = false })
file_of None = None

abbrev pub committed_of : Option ℕ → Option Asked
committed_of (Some slots) = Some (record { slots = slots; is_committed = true })
committed_of None = None

-- two slots where no word names them
abbrev pub one_word : List ℕ → Option Asked
one_word w = cond (bytes_eq w (codes "committed")) (committed_of (Some 2)) (file_of (slots_of w))

abbrev pub two_words : List ℕ → List ℕ → Option Asked
two_words w v = cond (bytes_eq v (codes "committed")) (committed_of (slots_of w)) None

abbrev pub asked_by : ℕ → List ℕ → List ℕ → Option Asked
asked_by n w v = cond (ltb n 2) (file_of (Some 2)) (cond (eqb n 2) (one_word w) (cond (eqb n 3) (two_words w v) None))
