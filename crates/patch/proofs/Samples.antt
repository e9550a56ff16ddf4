-- 01's examples on the patched lists, in every solution: the And at both slot numbers, the chain of eight, and the house file of the report.
-- Assumes nothing.
use mathlib.Core.Path.{◌≡◌, refl, ap, ◌∙◌, fun_ext}
use Prim.Native.Nat.{ℕ}
use native.Mathlib.Omega.{arith}
use mathlib.Core.Bool.{Bool, true, false, cond}
use mathlib.Core.List.{[], ◌∷◌}
use lib.Dec.{eqb}
use Rattle.shift.specs.declared.ShiftVariant.TheVariants.{Sll}
use Rattle.shift.specs.Shifts.{by, shift_at}
use Rattle.shift.specs.Compose.{degenerates, chains, compose_valid}
use Rattle.operand.specs.Push.{push_valid}
use Rattle.operand.specs.Numbers.{Term}
use Rattle.lower.specs.Model.{System, row_operands}
use Rattle.legraph.specs.Uses.{uses_in, uses_from, uses_of}
use Rattle.legraph.specs.Tables.{number_in}
use Rattle.commit_set.specs.declared.Decision.{Decision}
use Rattle.commit_set.specs.declared.Decision.TheVariants.{Inline}
use Rattle.commit_set.specs.Runs.{meets, plus, join_all, fresh}
use Rattle.commit_set.specs.Decision.{below, decide, Solves}
use Rattle.commit_set.specs.Decision as Decided
use Rattle.commit_set.specs.Paths.{committed}
use Rattle.commit_set.proofs.Samples.{one_and, and_two, and_one}
use Rattle.patch.specs.Patch.{committed_at, commit_set, inlined, depth, expand_term, met_term, expand_operand, met_operand, commits, rebuilt, row_rebuilds, rebuilds, written, terms_written, all_met, is_stranded, stranded, patch_rows, rebuild, patched, kept, counts_of}

abbrev term : ℕ → ℕ → ℕ → Term
term w i o = record { wire = w; inner = i; outer = o }

-- ---- "And with a = (d, sll 1), d = (x, slr 2) xor y": wires x 0, y 1, d 2

two_set : (st : ℕ → Decision) → Solves 2 one_and st → commit_set one_and st ≡ (λ (w : ℕ). false)
unfolding commit_set number_in
two_set st s = fun_ext (λ w. go (eqb w 2))
  where
    go : (b : Bool) → committed_at st (cond b 1 0) ≡ false
    go true = ap committed (and_two st s)
    go false = refl

one_set : (st : ℕ → Decision) → Solves 1 one_and st → commit_set one_and st ≡ (λ (w : ℕ). eqb w 2)
unfolding commit_set number_in
one_set st s = fun_ext (λ w. go (eqb w 2))
  where
    go : (b : Bool) → committed_at st (cond b 1 0) ≡ b
    go true = ap committed (and_one st s)
    go false = refl

-- "Two slots: a = (x, [slr 2, sll 1]), (y, sll 1)"
abbrev pub and-after : System
and-after = record { wires = 3; ands = ((term 0 66 1 ∷ term 1 1 0 ∷ []) ∷ [] ∷ [] ∷ []) ∷ []; imuls = []; bmuls = []; zeros = []; linears = [] }

two_patched : patched one_and (λ (w : ℕ). false) ≡ and-after
unfolding patched patch_rows rebuilt expand_operand expand_term inlined depth commits stranded is_stranded all_met rebuilds row_rebuilds met_operand met_term rebuild push_valid compose_valid degenerates chains
two_patched = refl

pub and_two_patched : (st : ℕ → Decision) → Solves 2 one_and st → patched one_and (commit_set one_and st) ≡ and-after
and_two_patched st s = ap (patched one_and) (two_set st s) ∙ two_patched

-- "One slot: d commits": the And names it, so it is rebuilt too, and stays as it was
one_patched : patched one_and (λ (w : ℕ). eqb w 2) ≡ one_and
unfolding patched patch_rows rebuilt expand_operand expand_term inlined depth commits stranded is_stranded all_met rebuilds row_rebuilds met_operand met_term rebuild push_valid compose_valid degenerates chains
one_patched = refl

pub and_one_patched : (st : ℕ → Decision) → Solves 1 one_and st → patched one_and (commit_set one_and st) ≡ one_and
and_one_patched st s = ap (patched one_and) (one_set st s) ∙ one_patched

-- the And, no definition after, none stranded, two terms written, two wires kept; and with one slot three terms, of the And and of d
two_counts : counts_of one_and (λ (w : ℕ). false) ≡ 1 ∷ 0 ∷ 0 ∷ 0 ∷ 0 ∷ 0 ∷ 0 ∷ 2 ∷ 2 ∷ []
unfolding counts_of terms_written written kept patched patch_rows rebuilt expand_operand expand_term inlined depth commits stranded is_stranded all_met rebuilds row_rebuilds met_operand met_term rebuild push_valid compose_valid degenerates chains
two_counts = refl

one_counts : counts_of one_and (λ (w : ℕ). eqb w 2) ≡ 1 ∷ 0 ∷ 0 ∷ 0 ∷ 1 ∷ 1 ∷ 0 ∷ 3 ∷ 3 ∷ []
unfolding counts_of terms_written written kept patched patch_rows rebuilt expand_operand expand_term inlined depth commits stranded is_stranded all_met rebuilds row_rebuilds met_operand met_term rebuild push_valid compose_valid degenerates chains
one_counts = refl

pub and_two_counts : (st : ℕ → Decision) → Solves 2 one_and st → counts_of one_and (commit_set one_and st) ≡ 1 ∷ 0 ∷ 0 ∷ 0 ∷ 0 ∷ 0 ∷ 0 ∷ 2 ∷ 2 ∷ []
and_two_counts st s = ap (counts_of one_and) (two_set st s) ∙ two_counts

pub and_one_counts : (st : ℕ → Decision) → Solves 1 one_and st → counts_of one_and (commit_set one_and st) ≡ 1 ∷ 0 ∷ 0 ∷ 0 ∷ 1 ∷ 1 ∷ 0 ∷ 3 ∷ 3 ∷ []
and_one_counts st s = ap (counts_of one_and) (one_set st s) ∙ one_counts

-- ---- the house file of the report: Zero of (1, sll 40), 1 = (2, sll 40), 2 = 0

abbrev pub report : System
report = record {
  wires = 3;
  ands = [];
  imuls = [];
  bmuls = [];
  zeros = ((term 1 40 0 ∷ []) ∷ []) ∷ [];
  linears = record { dst = 1; rhs = term 2 40 0 ∷ [] } ∷ record { dst = 2; rhs = term 0 0 0 ∷ [] } ∷ [];
}

report_first : (st : ℕ → Decision) → Solves 2 report st → st 0 ≡ Inline (fresh (by Sll 40))
unfolding uses_of uses_in uses_from row_operands decide Decided.commits join_all plus meets
report_first st s = s 0 (omega arith)

report_next : (st : ℕ → Decision) → Solves 2 report st → st 1 ≡ decide 2 (below (st 0) (shift_at 40) ∷ []) (shift_at 0 ∷ [])
unfolding uses_of uses_in uses_from row_operands
report_next st s = s 1 (omega arith)

report_second : (st : ℕ → Decision) → Solves 2 report st → committed (st 1) ≡ false
unfolding decide Decided.commits join_all plus meets
report_second st s = ap committed (report_next st s ∙ ap (λ (x : Decision). decide 2 (below x (shift_at 40) ∷ []) (shift_at 0 ∷ [])) (report_first st s))

report_set : (st : ℕ → Decision) → Solves 2 report st → commit_set report st ≡ (λ (w : ℕ). false)
unfolding commit_set number_in
report_set st s = fun_ext (λ w. go (eqb w 1) (eqb w 2))
  where
    go : (a b : Bool) → committed_at st (cond a 1 (cond b 2 0)) ≡ false
    go true b = ap committed (report_first st s)
    go false true = report_second st s
    go false false = refl

report_computed : counts_of report (λ (w : ℕ). false) ≡ 0 ∷ 0 ∷ 0 ∷ 1 ∷ 1 ∷ 0 ∷ 1 ∷ 0 ∷ 1 ∷ []
unfolding counts_of terms_written written kept patched patch_rows rebuilt expand_operand expand_term inlined depth commits stranded is_stranded all_met rebuilds row_rebuilds met_operand met_term rebuild push_valid compose_valid degenerates chains
report_computed = refl

-- "Whole output: `ok 0 0 0 1 1 0 1 0 1`"
pub report_counts : (st : ℕ → Decision) → Solves 2 report st → counts_of report (commit_set report st) ≡ 0 ∷ 0 ∷ 0 ∷ 1 ∷ 1 ∷ 0 ∷ 1 ∷ 0 ∷ 1 ∷ []
report_counts st s = ap (counts_of report) (report_set st s) ∙ report_computed

-- ---- Zero of (0, sll 40), 0 = 1, 1 = (2, sll 40), 2 = 3: nothing is written, and 0 and 1 are met all the same

abbrev pub dry : System
dry = record {
  wires = 4;
  ands = [];
  imuls = [];
  bmuls = [];
  zeros = ((term 0 40 0 ∷ []) ∷ []) ∷ [];
  linears = record { dst = 0; rhs = term 1 0 0 ∷ [] } ∷ record { dst = 1; rhs = term 2 40 0 ∷ [] } ∷ record { dst = 2; rhs = term 3 0 0 ∷ [] } ∷ [];
}

pub dry_written : written dry (λ (w : ℕ). false) ≡ []
unfolding written rebuilds row_rebuilds rebuilt commits expand_operand expand_term inlined depth push_valid compose_valid degenerates chains
dry_written = refl

pub dry_met : all_met dry (λ (w : ℕ). false) ≡ 0 ∷ 1 ∷ []
unfolding all_met rebuilds row_rebuilds rebuilt commits met_operand met_term inlined depth push_valid compose_valid degenerates chains
dry_met = refl
