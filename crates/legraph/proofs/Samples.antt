-- Uses and walks of small systems: what the definitions give is computed. Assumes nothing.
use mathlib.Core.Path.{◌≡◌, refl}
use mathlib.Core.Bool.{true, false}
use mathlib.Core.List.{List, [], ◌∷◌}
use Prim.Native.Nat.{ℕ}
use lib.ListN.{replicate}
use Rattle.operand.specs.Numbers.{Term}
use Rattle.lower.specs.Model.{Definition, System, row_operands}
use Rattle.legraph.specs.Uses.{constraint, definition, uses_in, uses_from, uses_of, rhs_of}
use Rattle.legraph.specs.Tables.{numbered}
use Rattle.legraph.specs.Walked.{Walked, enter, over, closed, visit, walk_from, walk_of, order_of}
use Rattle.legraph.proofs.Listing.{table_of}

abbrev term : ℕ → ℕ → Term
term w s = record { wire = w; inner = s; outer = 0 }

abbrev system : List Definition → System
system ds =
    record {
      wires = 4;
      ands = [];
      imuls = [];
      bmuls = [];
      zeros = ((term 2 0 ∷ term 2 0 ∷ term 1 4 ∷ []) ∷ []) ∷ [];
      linears = ds;
    }

-- Zero of wire 2 twice and of wire 1 shifted left by 4; wire 1 is wire 0 shifted right by 8, and wire 2 is wire 1
abbrev sample : System
sample = system (record { dst = 1; rhs = term 0 72 ∷ [] } ∷ record { dst = 2; rhs = term 1 0 ∷ [] } ∷ [])

-- equal terms count each
pub sample_twice : uses_of sample 2 ≡ record { user = constraint; shift = 0 } ∷ record { user = constraint; shift = 0 } ∷ []
unfolding uses_of uses_in uses_from row_operands
sample_twice = refl

-- and uses in definitions count
pub sample_both : uses_of sample 1 ≡ record { user = constraint; shift = 4 } ∷ record { user = definition 1; shift = 0 } ∷ []
unfolding uses_of uses_in uses_from row_operands
sample_both = refl

abbrev walk_in : System → ℕ → Walked
walk_in p n = walk_of (rhs_of p) (table_of 4 p) n (replicate 4 0) (replicate 4 0)

-- the definition 1 names the definition 0
pub sample_order : order_of (walk_in sample 2) ≡ 1 ∷ 0 ∷ []
unfolding walk_of walk_from visit enter over closed numbered
sample_order = refl

pub sample_no_circle : (walk_in sample 2).circle ≡ false
unfolding walk_of walk_from visit enter over closed numbered
sample_no_circle = refl

-- a definition that names itself, which nothing uses; two that name each other
abbrev itself : System
itself = system (record { dst = 3; rhs = term 0 0 ∷ term 3 0 ∷ [] } ∷ [])

pub sample_itself : (walk_in itself 1).circle ≡ true
unfolding walk_of walk_from visit enter over closed numbered
sample_itself = refl

abbrev two : System
two = system (record { dst = 1; rhs = term 2 0 ∷ [] } ∷ record { dst = 2; rhs = term 1 0 ∷ [] } ∷ [])

pub sample_two : (walk_in two 2).circle ≡ true
unfolding walk_of walk_from visit enter over closed numbered
sample_two = refl
