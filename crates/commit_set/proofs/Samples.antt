-- 01's examples of decisions, in every solution: the And whose definition is inlined with two slots and commits with one, and the chain
-- of eight. Assumes nothing.
use mathlib.Core.Path.{◌≡◌, refl, ap, ◌∙◌}
use Prim.Native.Nat.{ℕ, ◌+◌}
use native.Mathlib.Omega.{arith}
use mathlib.Core.Bool.{true, false}
use mathlib.Core.List.{[], ◌∷◌, map}
use Rattle.shift.specs.declared.ShiftVariant.TheVariants.{Sll, Slr, Sar}
use Rattle.shift.specs.Shifts.{by, identity, shift_at}
use Rattle.shift.specs.Compose.{degenerates, chains, compose_valid}
use Rattle.operand.specs.declared.PushInner.TheVariants.{Seq}
use Rattle.operand.specs.Push.{push_valid}
use Rattle.operand.specs.Numbers.{Term}
use Rattle.lower.specs.Model.{Definition, System, row_operands}
use Rattle.legraph.specs.Uses.{uses_in, uses_from, uses_of}
use Rattle.commit_set.specs.declared.Decision.{Decision}
use Rattle.commit_set.specs.declared.Decision.TheVariants.{Commit, Inline}
use Rattle.commit_set.specs.Runs.{no_runs, meets, plus, context, join_all, fresh}
use Rattle.commit_set.specs.Decision.{below, commits, decide, Solves}
use Rattle.commit_set.specs.Paths.{committed}

abbrev term : ℕ → ℕ → Term
term w n = record { wire = w; inner = n; outer = 0 }

-- "sar 40 twice is two runs", though the two compose to sar 63
pub two_runs : (plus (plus no_runs (by Sar 40)) (by Sar 40)).len ≡ 2
unfolding plus meets
two_runs = refl

-- three uses and three terms, not one run: inlined; six uses and two terms: committed
pub three_three_inlined : commits 2 (fresh (by Sll 1) ∷ fresh (by Sll 1) ∷ fresh (by Sll 1) ∷ []) (by Slr 2 ∷ identity ∷ identity ∷ []) ≡ false
unfolding commits join_all plus meets
three_three_inlined = refl

pub six_two_committed : commits 2 (fresh (by Sll 1) ∷ fresh (by Sll 1) ∷ fresh (by Sll 1) ∷ fresh (by Sll 1) ∷ fresh (by Sll 1) ∷ fresh (by Sll 1) ∷ []) (by Slr 2 ∷ identity ∷ []) ≡ true
unfolding commits join_all plus meets
six_two_committed = refl

-- ---- "And with a = (d, sll 1), d = (x, slr 2) xor y": wires x 0, y 1, d 2

abbrev pub one_and : System
one_and = record {
  wires = 3;
  ands = ((term 2 1 ∷ []) ∷ [] ∷ [] ∷ []) ∷ [];
  imuls = [];
  bmuls = [];
  zeros = [];
  linears = record { dst = 2; rhs = term 0 66 ∷ term 1 0 ∷ [] } ∷ [];
}

-- "Two slots: a = (x, [slr 2, sll 1]), (y, sll 1)"
pub and_two : (st : ℕ → Decision) → Solves 2 one_and st → st 0 ≡ Inline (fresh (by Sll 1))
unfolding uses_of uses_in uses_from row_operands decide commits join_all plus meets
and_two st s = s 0 (omega arith)

pub and_x : push_valid (by Sll 1) identity (by Slr 2) 2 ≡ Seq (by Slr 2) (by Sll 1)
unfolding push_valid compose_valid degenerates chains
and_x = refl

pub and_y : push_valid (by Sll 1) identity identity 2 ≡ Seq (by Sll 1) identity
unfolding push_valid compose_valid degenerates chains
and_y = refl

-- "One slot: d commits"
pub and_one : (st : ℕ → Decision) → Solves 1 one_and st → st 0 ≡ Commit
unfolding uses_of uses_in uses_from row_operands decide commits join_all plus meets
and_one st s = s 0 (omega arith)

-- ---- "A straight chain of two-term unshifted definitions under one constraint": wires 1 to 8, each naming the next

abbrev link : ℕ → Definition
link n = record { dst = n; rhs = term (n + 1) 0 ∷ term 0 0 ∷ [] }

abbrev pub links : System
links = record {
  wires = 10;
  ands = [];
  imuls = [];
  bmuls = [];
  zeros = ((term 1 0 ∷ []) ∷ []) ∷ [];
  linears = link 1 ∷ link 2 ∷ link 3 ∷ link 4 ∷ link 5 ∷ link 6 ∷ link 7 ∷ link 8 ∷ [];
}

module _ (st : ℕ → Decision) (s : Solves 2 links st) where
  -- the answer for a link, from that for the link that names it
  abbrev next : Decision → Decision
  next x = decide 2 (below x (shift_at 0) ∷ []) (shift_at 0 ∷ shift_at 0 ∷ [])

  at_0 : st 0 ≡ Inline (context no_runs 0)
  unfolding uses_of uses_in uses_from row_operands decide commits join_all plus
  at_0 = s 0 (omega arith)

  named : (st 1 ≡ next (st 0)) × (st 2 ≡ next (st 1)) × (st 3 ≡ next (st 2)) × (st 4 ≡ next (st 3)) × (st 5 ≡ next (st 4)) × (st 6 ≡ next (st 5)) × (st 7 ≡ next (st 6))
  unfolding uses_of uses_in uses_from row_operands
  named = (s 1 (omega arith), s 2 (omega arith), s 3 (omega arith), s 4 (omega arith), s 5 (omega arith), s 6 (omega arith), s 7 (omega arith))

  -- "seven are gone, the eighth commits"
  pub seven_gone : map (λ (d : ℕ). committed (st d)) (0 ∷ 1 ∷ 2 ∷ 3 ∷ 4 ∷ 5 ∷ 6 ∷ 7 ∷ []) ≡ false ∷ false ∷ false ∷ false ∷ false ∷ false ∷ false ∷ true ∷ []
  unfolding decide commits join_all plus
  seven_gone =
      let e1 : st 1 ≡ Inline (context no_runs 1) = named.0 ∙ ap next at_0 in
      let e2 : st 2 ≡ Inline (context no_runs 2) = named.1 ∙ ap next e1 in
      let e3 : st 3 ≡ Inline (context no_runs 3) = named.2 ∙ ap next e2 in
      let e4 : st 4 ≡ Inline (context no_runs 4) = named.3 ∙ ap next e3 in
      let e5 : st 5 ≡ Inline (context no_runs 5) = named.4 ∙ ap next e4 in
      let e6 : st 6 ≡ Inline (context no_runs 6) = named.5 ∙ ap next e5 in
      let e7 : st 7 ≡ Commit = named.6 ∙ ap next e6 in
      rw (at_0, e1, e2, e3, e4, e5, e6, e7)
