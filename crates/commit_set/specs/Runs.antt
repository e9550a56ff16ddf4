-- Runs of shifts and contexts (01, "The decision", first paragraph).
--
--   bit_of v          the set of one variant; a set of variants is a number of eight bits
--   run_of s          the run of one shift
--   plus r s         the runs r with the shift s added inside
--   join_runs a b     the runs of both
--   fresh s          the context of a use that starts afresh
--   under c s        the context of a term below the context c
--   join_all cs       all contexts joined; none, the empty context
--
-- Runs count from the outside in: `first` is the outermost. Those that are not counted are no_run, and a count of 3 stands for every count
-- above 2.
--
-- Assumes nothing.
use Rattle.std.specs.Prelude.{ℕ, zero, suc, ◌+◌, min, max, Bool, cond, ◌&&◌, ◌||◌, List, [], ◌∷◌, ltb, eqb}
use Rattle.std.specs.Int.Bits.{bit_or}
use Rattle.shift.specs.declared.ShiftVariant.{ShiftVariant}
use Rattle.shift.specs.declared.ShiftVariant.TheVariants.{Sll, Slr, Sar, Rotr, Sll32, Srl32, Sra32, Rotr32}
use Rattle.shift.specs.declared.Shift.{Shift}
use Rattle.shift.specs.Shifts.{width_of, cyclic_of}
use Rattle.commit_set.specs.declared.Run.{Run}
use Rattle.commit_set.specs.declared.ShiftSummary.{ShiftSummary}
use Rattle.commit_set.specs.declared.CommitSetCx.{CommitSetCx}

-- "A run has a set of variants and a total"
abbrev pub bit_of : ShiftVariant → ℕ
bit_of Sll = 1
bit_of Slr = 2
bit_of Sar = 4
bit_of Rotr = 8
bit_of Sll32 = 16
bit_of Srl32 = 32
bit_of Sra32 = 64
bit_of Rotr32 = 128

abbrev pub no_run : Run
no_run = record { variants = 0; total = 0 }

abbrev pub run_of : Shift → Run
run_of s = record { variants = bit_of s.variant; total = s.amount }

-- "the total grows (capped at 255)"
abbrev pub grown : Run → Shift → ℕ
grown r s = min (r.total + s.amount) 255

-- "if the innermost run's set is exactly that variant and, unless cyclic, the new total stays below the width"
abbrev pub absorbs : Run → Shift → Bool
absorbs r s = eqb r.variants (bit_of s.variant) && (cyclic_of s.variant || ltb (grown r s) (width_of s.variant))

abbrev pub absorbed : Run → Shift → Run
absorbed r s = record { variants = r.variants; total = grown r s }

abbrev pub runs : ℕ → Run → Run → ShiftSummary
runs n a b = record { first = a; second = b; len = n }

abbrev pub no_runs : ShiftSummary
no_runs = runs 0 no_run no_run

-- a shift that is no identity meets the innermost of n runs; "otherwise a new run opens", "A count above 2 reads as 3"
unfoldable pub meets : ℕ → Run → Run → Shift → ShiftSummary
meets zero a b s = runs 1 (run_of s) b
meets (suc zero) a b s = cond (absorbs a s) (runs 1 (absorbed a s) b) (runs 2 a (run_of s))
meets (suc (suc zero)) a b s = cond (absorbs b s) (runs 2 a (absorbed b s)) (runs 3 a b)
meets (suc (suc (suc n))) a b s = runs 3 a b

-- "Adding a shift to runs: an identity changes nothing"
unfoldable pub plus : ShiftSummary → Shift → ShiftSummary
plus r s = cond (eqb s.amount 0) r (meets r.len r.first r.second s)

-- "Joining takes the union of sets, the greatest total and the greatest count, run by run"
abbrev pub join_run : Run → Run → Run
join_run a b = record { variants = bit_or a.variants b.variants; total = max a.total b.total }

abbrev pub join_runs : ShiftSummary → ShiftSummary → ShiftSummary
join_runs a b = runs (max a.len b.len) (join_run a.first b.first) (join_run a.second b.second)

-- "A context is (runs, depth)"
abbrev pub context : ShiftSummary → ℕ → CommitSetCx
context r n = record { shifts = r; depth = n }

abbrev pub no_context : CommitSetCx
no_context = context no_runs 0

abbrev pub join : CommitSetCx → CommitSetCx → CommitSetCx
join a b = context (join_runs a.shifts b.shifts) (max a.depth b.depth)

-- "A definition with no use has the empty context"
unfoldable pub join_all : List CommitSetCx → CommitSetCx
join_all [] = no_context
join_all (c ∷ cs) = join c (join_all cs)

abbrev pub fresh : Shift → CommitSetCx
fresh s = context (plus no_runs s) 0

abbrev pub under : CommitSetCx → Shift → CommitSetCx
under c s = context (plus c.shifts s) (suc c.depth)
