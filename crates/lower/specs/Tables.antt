-- The table of defined wires that the check of 10 makes, and the tests that it makes by it.
--
--   marks l ds       the table l with each of ds marked
--   marked l w       w is marked
--   double_in         10 at one term, in a definition or elsewhere; handle_double, at some term of the operand of a number;
--                    lists_double, at some term of the five lists
--
-- Assumes nothing.
use Rattle.std.specs.Prelude.{ℕ, Bool, true, false, not, ◌&&◌, ◌||◌, List, [], ◌∷◌, eqb, get_or, set, take}
use Rattle.operand.specs.Numbers.{Term, operand_of}
use Rattle.lower.specs.declared.Sizes.{Sizes}
use Rattle.lower.specs.Lists.{some_of}
use Rattle.lower.specs.Stores.{Stores, row_handles}
use Rattle.lower.specs.Faults.{is_double}

abbrev pub marks : List ℕ → List ℕ → List ℕ
marks l [] = l
marks l (d ∷ ds) = marks (set l d 1) ds

abbrev pub marked : List ℕ → ℕ → Bool
marked l w = not (eqb (get_or l w 0) 0)

abbrev pub double_in : List ℕ → Bool → Term → Bool
double_in defined definition t = is_double t && (definition || marked defined t.wire)

unfoldable pub handle_double : List ℕ → List ℕ → List ℕ → Bool → ℕ → Bool
handle_double old new defined definition h = some_of (double_in defined definition) (operand_of old new h)

unfoldable pub lists_double : Sizes → Stores → List ℕ → Bool
lists_double z s defined =
    some_of (handle_double s.old s.new defined false) (row_handles z s.ands s.imuls s.bmuls s.zeros)
    || some_of (handle_double s.old s.new defined true) (take z.linears s.rhss)
