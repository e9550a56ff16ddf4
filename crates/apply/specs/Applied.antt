-- The lists after patching, as numbers in the lent stores (01, "The patched lists": "each list: what was neither rebuilt nor gone, in old
-- order, then what was rebuilt").
--
--   untouched          a row of operand numbers names no defined wire, by the table
--   kept_rows q k n hs  of n rows of k numbers those that pass the test, one after the other
--   rows_after          these, and of the numbers of new operands as many as were struck
--   struck             how many numbers are struck; from_imuls, from_bmuls, from_zeros, from_commits: where in the list of new numbers those of
--                      the next list begin, lists in their order
--   Rows               n rows of k numbers are there, and stand in their stores; Listed, what is asked of the four lists and of the list of new numbers
--   only_if b l         l, or nothing
--   is_stranded         a definition is not committed, and its reach mask is 0
--   keep_from q i l     the elements whose number passes the test, numbers counted from i on
--   is_committed        a node is a committed definition; committed_wires, those of the wires w, w + 1, .., n of them
--   flags_from          a flag a wire: 1 for committed, else 0
--
-- Assumes nothing.
use Rattle.std.specs.Prelude.{ℕ, zero, suc, ◌+◌, ◌*◌, ◌-◌, ◌≤◌, Bool, false, cond, not, ◌&&◌, List, [], ◌∷◌, ◌++◌, map, eqb, length, get_or, take}
use Rattle.operand.specs.Numbers.{operand_of}
use Rattle.lower.specs.declared.Sizes.{Sizes}
use Rattle.lower.specs.Lists.{All, keep, joined}
use Rattle.lower.specs.Stores.{Stands, chunks}
use Rattle.patch.specs.Spelling.{row_names}

unfoldable pub untouched : List ℕ → List ℕ → List ℕ → List ℕ → Bool
untouched old new table r = not (row_names table (map (operand_of old new) r))

unfoldable pub kept_rows : (List ℕ → Bool) → ℕ → ℕ → List ℕ → List ℕ
kept_rows q k n hs = joined (keep q (chunks k n hs))

unfoldable pub rows_after : (List ℕ → Bool) → ℕ → ℕ → List ℕ → List ℕ → List ℕ
rows_after q k n hs es = kept_rows q k n hs ++ take (k * n - length (kept_rows q k n hs)) es

abbrev pub only_if : Bool → List ℕ → List ℕ
only_if b l = cond b l []

unfoldable pub struck : (List ℕ → Bool) → ℕ → ℕ → List ℕ → ℕ
struck q k n hs = k * n - length (kept_rows q k n hs)

abbrev pub from_imuls : (List ℕ → Bool) → Sizes → List ℕ → ℕ
from_imuls q z ands = struck q 3 z.ands ands

abbrev pub from_bmuls : (List ℕ → Bool) → Sizes → List ℕ → List ℕ → ℕ
from_bmuls q z ands imuls = from_imuls q z ands + struck q 4 z.imuls imuls

abbrev pub from_zeros : (List ℕ → Bool) → Sizes → List ℕ → List ℕ → List ℕ → ℕ
from_zeros q z ands imuls bmuls = from_bmuls q z ands imuls + struck q 6 z.bmuls bmuls

abbrev pub from_commits : (List ℕ → Bool) → Sizes → List ℕ → List ℕ → List ℕ → List ℕ → ℕ
from_commits q z ands imuls bmuls zeros = from_zeros q z ands imuls bmuls + struck q 1 z.zeros zeros

-- what is read of a list is there: n rows of k numbers, whose operands stand in their stores
abbrev pub Rows : List ℕ → List ℕ → ℕ → ℕ → List ℕ → Type 0
Rows old new k n hs = (k * n ≤ length hs) × All (Stands old new) (take (k * n) hs)

pub record Listed (old new ands imuls bmuls zeros : List ℕ) (z : Sizes) (table list : List ℕ) : Type 0 where
  pub ands_there : Rows old new 3 z.ands ands
  pub imuls_there : Rows old new 4 z.imuls imuls
  pub bmuls_there : Rows old new 6 z.bmuls bmuls
  pub zeros_there : Rows old new 1 z.zeros zeros
  pub list_there : from_commits (untouched old new table) z ands imuls bmuls zeros ≤ length list

-- d is a definition's number; a decision of 0 is Commit
abbrev pub is_stranded : List ℕ → List ℕ → ℕ → Bool
is_stranded decisions reach d = not (eqb (get_or decisions d 0) 0) && eqb (get_or reach d 0) 0

unfoldable pub keep_from : (ℕ → Bool) → ℕ → List ℕ → List ℕ
keep_from q i [] = []
keep_from q i (x ∷ xs) = cond (q i) (x ∷ keep_from q (suc i) xs) (keep_from q (suc i) xs)

-- n is a node: 0 where the wire is not defined, or its definition, counted from 1
abbrev pub is_committed : List ℕ → ℕ → Bool
is_committed decisions zero = false
is_committed decisions (suc d) = eqb (get_or decisions d 0) 0

unfoldable pub committed_wires : List ℕ → List ℕ → ℕ → ℕ → List ℕ
committed_wires table decisions w zero = []
committed_wires table decisions w (suc n) =
    cond (is_committed decisions (get_or table w 0)) (w ∷ committed_wires table decisions (suc w) n) (committed_wires table decisions (suc w) n)

-- "fusing writes 1 or 0"
unfoldable pub flags_from : List ℕ → List ℕ → ℕ → ℕ → List ℕ
flags_from table decisions w zero = []
flags_from table decisions w (suc n) = cond (is_committed decisions (get_or table w 0)) 1 0 ∷ flags_from table decisions (suc w) n
