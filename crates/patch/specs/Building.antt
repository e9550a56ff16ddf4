-- Operands rebuilt one after the other: their terms go to a store of new terms, and their numbers to a list.
--
--   Built              the store of new terms, and the list of operand numbers with how many it has
--   built_by            the same, by what the program carries
--   build_one go o      one operand more: go writes a term. Where the list is full nothing is done
--   build_all go os     the operands that are left
--   Builds s n os x y   so from x to y, each term spelt, no chain longer than n, and the store is never overrun
--   Rooted             what is asked of an operand that is rebuilt: it stands in its store, and its shifts are valid
--   rows_in             the operands of the rows that name a defined wire, by the table
--   committed_at        the right side of a node that is a committed definition; commits_in, of the wires w, w + 1, .., n of them
--   roots_in            the operands of the constraints that are rebuilt; operands_in, all operands that are rebuilt, in their order
--   Ready s n          right sides can be read, and no chain of definitions has more than n links
--   RowsThere          n rows of k operand numbers are there, each Rooted; CommitsThere, so the right side of every node
--   Room               the terms so far stand in the store, whose places have numbers
--   Buildable          all of this: what is asked where a whole system is rebuilt
--
-- Assumes nothing.
use Rattle.std.specs.Prelude.{◌≡◌, ℕ, zero, suc, ◌-◌, ◌*◌, ◌≤◌, ◌<◌, true, cond, List, [], ◌∷◌, ◌++◌, ltb, eqb, length, take, get_or, set}
use Rattle.operand.specs.Numbers.{Term, Operand, operand_of, operand_number}
use Rattle.lower.specs.declared.Sizes.{Sizes}
use Rattle.lower.specs.Lists.{All, keep, joined}
use Rattle.lower.specs.Accepted.{ShiftsOf}
use Rattle.lower.specs.Stores.{Stands, rows_of}
use Rattle.legraph.specs.Walked.{rhs_in}
use Rattle.patch.specs.declared.Progress.{Progress}
use Rattle.patch.specs.Steps.{Written, write_terms}
use Rattle.patch.specs.Expansion.{Within}
use Rattle.patch.specs.Spelling.{Source, in_place, spelt, spell, row_names, Readable}

pub record Built : Type 0 where
  pub wrote : Written
  pub list : List ℕ
  pub at : ℕ

abbrev pub built : Written → List ℕ → ℕ → Built
built m l n = record { wrote = m; list = l; at = n }

abbrev pub built_by : List ℕ → List ℕ → Progress → Built
built_by out list b = built (spelt out b.cursor) list b.at

-- the operand that stands in the new store from the place a on, up to the place b
abbrev pub handle : ℕ → ℕ → ℕ
handle a b = operand_number (record { start = a; len = b - a; new = true })

unfoldable pub build_one : (Term → Written → Written) → Operand → Built → Built
build_one go o b =
    cond (ltb b.at (length b.list))
    (built (write_terms go o b.wrote) (set b.list b.at (handle b.wrote.count (write_terms go o b.wrote).count)) (suc b.at))
    b

unfoldable pub build_all : (Term → Written → Written) → List Operand → Built → Built
build_all go [] b = b
build_all go (o ∷ os) b = build_all go os (build_one go o b)

abbrev pub Builds : Source → ℕ → List Operand → Built → Built → Type 0
Builds s n os x y = (y ≡ build_all (spell s n) os x) × (y.wrote.count ≤ length x.wrote.new)

abbrev pub Rooted : List ℕ → List ℕ → ℕ → Type 0
Rooted old new h = Stands old new h × All ShiftsOf (operand_of old new h)

-- the operands of a row, if it names a defined wire
abbrev pub row_in : Source → List Operand → List Operand
row_in s r = cond (row_names s.table r) r []

-- n rows of k operand numbers each
unfoldable pub rows_in : Source → ℕ → ℕ → List ℕ → List Operand
rows_in s k n hs = joined (keep (row_names s.table) (rows_of (operand_of s.old s.new) k n hs))

-- n is a node; a decision of 0 is Commit
abbrev pub committed_at : Source → ℕ → List Operand
committed_at s zero = []
committed_at s (suc d) = cond (eqb (get_or s.decisions d 0) 0) (rhs_in s.old s.new s.rhss d ∷ []) []

unfoldable pub commits_in : Source → ℕ → ℕ → List Operand
commits_in s w zero = []
commits_in s w (suc n) = committed_at s (get_or s.table w 0) ++ commits_in s (suc w) n

-- the operands of the constraints
unfoldable pub roots_in : Source → Sizes → List ℕ → List ℕ → List ℕ → List ℕ → List Operand
roots_in s z ands imuls bmuls zeros =
    rows_in s 3 z.ands ands ++ (rows_in s 4 z.imuls imuls ++ (rows_in s 6 z.bmuls bmuls ++ rows_in s 1 z.zeros zeros))

unfoldable pub operands_in : Source → Sizes → List ℕ → List ℕ → List ℕ → List ℕ → List Operand
operands_in s z ands imuls bmuls zeros =
    rows_in s 3 z.ands ands
    ++ (rows_in s 4 z.imuls imuls ++ (rows_in s 6 z.bmuls bmuls ++ (rows_in s 1 z.zeros zeros ++ commits_in s 0 z.wires)))

abbrev pub Ready : Source → ℕ → Type 0
Ready s n = Readable s × ((w : ℕ) → Within (in_place s) n w)

abbrev pub RowsThere : List ℕ → List ℕ → ℕ → ℕ → List ℕ → Type 0
RowsThere old new k n hs = (k * n ≤ length hs) × All (Rooted old new) (take (k * n) hs)

abbrev pub CommitsThere : Source → Type 0
CommitsThere s = (w d : ℕ) → get_or s.table w 0 ≡ suc d → Rooted s.old s.new (get_or s.rhss d 0)

-- the start of an operand has 31 bits
abbrev pub Room : List ℕ → Progress → Type 0
Room out b = (b.cursor.count ≤ length out) × (length out < 2147483648)

pub record Buildable (s : Source) (z : Sizes) (ands imuls bmuls zeros : List ℕ) : Type 0 where
  pub ready : Ready s z.linears
  pub ands_there : RowsThere s.old s.new 3 z.ands ands
  pub imuls_there : RowsThere s.old s.new 4 z.imuls imuls
  pub bmuls_there : RowsThere s.old s.new 6 z.bmuls bmuls
  pub zeros_there : RowsThere s.old s.new 1 z.zeros zeros
  pub commits_there : CommitsThere s
  -- a wire has 16 bits
  pub wires_few : z.wires ≤ 65536
