-- An accepted system in stores has what the masks of its terms ask for, and 8,192 places are room for them. Assumes nothing.
use mathlib.Core.Path.{◌≡◌, refl, sym, subst}
use Prim.Native.Nat.{ℕ, zero, suc, ◌≤◌}
use mathlib.Core.Bool.{true}
use native.Mathlib.Omega.{arith}
use lib.ListN.{get_or, take}
use Rattle.shift.specs.Shifts.{valid_number}
use Rattle.operand.specs.Numbers.{Term}
use Rattle.lower.specs.declared.Sizes.{Sizes}
use Rattle.lower.specs.Lists.{All, sum_of}
use Rattle.lower.specs.Accepted.{ShiftsOf, Once, Shifted}
use Rattle.lower.specs.Stores.{Stores, system_of, row_handles}
use Rattle.lower.specs.Faults.{length_of, memory_fault}
use Rattle.lower.proofs.Firsts.{sum-append}
use Rattle.lower.proofs.Checks.{checked, memory_places, memory_definitions, memory_terms}
use Rattle.legraph.proofs.Listing.{table_of, found_at}
use Rattle.legraph.proofs.Theorem.{count, rhs_same, small, all_there}
use Rattle.commit_set.proofs.Members.{all_terms, all_rhs}
use Rattle.patch.specs.Spelling.{Lookable}
use Rattle.patch.proofs.Parts.{all_each}

module _ (z : Sizes) (s : Stores) (e : memory_fault 8192 z s ≡ 0) where
  pub looks_room : sum_of length_of (take z.linears s.rhss) ≤ 8192
  looks_room = omega (arith, memory_terms 8192 z s e, sum-append length_of (row_handles z s.ands s.imuls s.bmuls s.zeros) (take z.linears s.rhss))

  pub lookable : Once (system_of z s).linears → Shifted (system_of z s) → Lookable s.old s.new s.rhss (table_of 4096 (system_of z s)) z.linears
  lookable once shifted = record {
    right_sides = (checked z s (memory_places 8192 z s e)).rhss_in;
    few = memory_definitions 8192 z s e;
    nodes = λ w. low w (get_or (table_of 4096 (system_of z s)) w 0) refl;
    stand = λ d h. (all_there z s e d h).2;
    shifts_there = λ d h. subst (All (λ (u : Term). valid_number u.inner ≡ true)) (sym (rhs_same z s e d (omega (arith, h, count z s e))))
        (all_each (λ u v. v.0) (all_rhs ShiftsOf (system_of z s) d (omega (arith, h, count z s e)) (all_terms ShiftsOf (system_of z s) shifted)));
  }
    where
      low : (w x : ℕ) → get_or (table_of 4096 (system_of z s)) w 0 ≡ x → x ≤ 1024
      low w zero q = omega arith
      low w (suc d) q = omega (arith, (found_at (system_of z s) 4096 once (small z s e) w d q).under, count z s e, memory_definitions 8192 z s e)
