-- One small system in stores, fused with two slots: one definition is gone, one committed, one stranded. What is left, that demand 3 holds
-- of it, and that stranded definitions must be set aside. Assumes nothing.
use mathlib.Core.Path.{◌≡◌, refl, sym, ap, ◌∙◌, subst, fun_ext}
use Prim.Native.Nat.{ℕ, zero, suc}
use native.Mathlib.Omega.{arith}
use mathlib.Core.Bool.{Bool, true, false, cond}
use mathlib.Core.List.{List, [], ◌∷◌}
use lib.Dec.{eqb, lit<}
use borrow.Author.Tests.{eqb-true}
use Rattle.shift.specs.declared.ShiftVariant.TheVariants.{Sll}
use Rattle.shift.specs.Shifts.{by, shift_at, shifted}
use Rattle.shift.specs.Compose.{degenerates, chains, compose_valid}
use Rattle.operand.specs.Push.{push_valid}
use Rattle.operand.specs.Numbers.{Term, operand_of}
use Rattle.lower.specs.declared.Sizes.{Sizes}
use Rattle.lower.specs.Lists.{All, done, more}
use Rattle.lower.specs.Model.{System, row_operands, definition_operands}
use Rattle.lower.specs.Accepted.{NoCircle}
use Rattle.lower.specs.Values.{moved, term_value, word_of, DefinitionHolds, Satisfies}
use Rattle.lower.specs.Stores.{system_of, row_handles}
use Rattle.lower.specs.Faults.{term_fault, operand_fault, rows_fault, definitions_fault, places_fault, full_fault, memory_fault, definition_fault}
use Rattle.legraph.specs.Uses.{uses_in, uses_from, uses_of}
use Rattle.legraph.specs.Tables.{number_in}
use Rattle.commit_set.specs.declared.Decision.{Decision}
use Rattle.commit_set.specs.declared.Decision.TheVariants.{Inline}
use Rattle.commit_set.specs.Runs.{meets, plus, join_all, fresh}
use Rattle.commit_set.specs.Decision.{below, decide, Solves}
use Rattle.commit_set.specs.Decision as Decided
use Rattle.commit_set.specs.Paths.{committed}
use Rattle.commit_set.specs.Orders.{Ranked}
use Rattle.commit_set.specs.Answer.{decision_fault}
use Rattle.commit_set.proofs.Circles.{no_circle}
use Rattle.commit_set.proofs.Ordering.{solution, solution_solves}
use Rattle.commit_set.proofs.Theorem.{decided_accepted}
use Rattle.patch.specs.Patch.{committed_at, commit_set, inlined, depth, expand_term, expand_operand, met_term, met_operand, rebuilt, commits, row_rebuilds, rebuilds, written, terms_written, all_met, is_gone, gone, is_stranded, stranded, kept}
use Rattle.patch.specs.Handles.{handles_from, keep_by}
use Rattle.patch.proofs.Parts.{clash, lost}
use Rattle.apply.specs.Applied.{kept_rows}
use Rattle.undo.specs.FillBack.{Assignment}
use Rattle.fusion.specs.declared.Counts.{Counts}
use Rattle.std.specs.Prelude.{Ok}
use Rattle.fusion.specs.Left.{Lent, lent, input, fused, flags_of, numbers, is_kept, has_room, counts_of, leaves}
use Rattle.fusion.specs.Answer.{told_fused, Fuses}
use Rattle.fusion.proofs.Closing.{fuses_patched}
use Rattle.demand.specs.OnStores.{after, left, set_aside, Fills, Agrees, UndoneOnStores}
use Rattle.demand.proofs.Theorem.{demand_3_on_stores}

abbrev term : ℕ → ℕ → ℕ → Term
term w i o = record { wire = w; inner = i; outer = o }

-- Zero of (1, sll 1); 1 = (2, slr 2), 2 = (0, sll 3), 3 = 0
abbrev pub original : System
original =
    record {
      wires = 4;
      ands = [];
      imuls = [];
      bmuls = [];
      zeros = ((term 1 1 0 ∷ []) ∷ []) ∷ [];
      linears = record { dst = 1; rhs = term 2 66 0 ∷ [] } ∷ record { dst = 2; rhs = term 0 3 0 ∷ [] } ∷ record { dst = 3; rhs = term 0 0 0 ∷ [] } ∷ [];
    }

abbrev pub sizes : Sizes
sizes = record { wires = 4; ands = 0; imuls = 0; bmuls = 0; zeros = 1; linears = 3 }

-- what is lent: room for two new terms, and five flags
abbrev pub before : Lent
before =
    lent (65537 ∷ 4325378 ∷ 196608 ∷ 0 ∷ []) (8 ∷ 8 ∷ []) [] [] [] (1 ∷ []) (1 ∷ 2 ∷ 3 ∷ []) (4294967297 ∷ 8589934593 ∷ 12884901889 ∷ [])
    (9 ∷ 9 ∷ 9 ∷ 9 ∷ 9 ∷ [])

pub stands : fused sizes before ≡ original
unfolding system_of operand_of
stands = refl

no_fault : decision_fault 2 sizes (input before) ≡ 0
unfolding decision_fault memory_fault places_fault rows_fault definitions_fault operand_fault term_fault full_fault definition_fault system_of operand_of row_handles row_operands definition_operands
no_fault = refl

ranked : Ranked original (λ (d : ℕ). d)
ranked zero zero l m u = absurd (clash u refl)
ranked zero (suc d) l m u = omega arith
ranked (suc zero) zero l m u = absurd (clash u refl)
ranked (suc zero) (suc zero) l m u = absurd (clash u refl)
ranked (suc zero) (suc (suc d)) l m u = omega arith
ranked (suc (suc zero)) zero l m u = absurd (clash u refl)
ranked (suc (suc zero)) (suc zero) l m u = absurd (clash u refl)
ranked (suc (suc zero)) (suc (suc zero)) l m u = absurd (clash u refl)
ranked (suc (suc zero)) (suc (suc (suc d))) l m u = omega arith
ranked (suc (suc (suc e))) d l m u = absurd (omega arith)

no_circles : NoCircle (fused sizes before)
no_circles = subst NoCircle (sym stands) (no_circle original (λ (d : ℕ). d) ranked)

-- ---- the decisions

module _ (st : ℕ → Decision) (s : Solves 2 original st) where
  first : st 0 ≡ Inline (fresh (by Sll 1))
  unfolding uses_of uses_in uses_from row_operands decide Decided.commits join_all plus meets
  first = s 0 (omega arith)

  next : st 1 ≡ decide 2 (below (st 0) (shift_at 66) ∷ []) (shift_at 3 ∷ [])
  unfolding uses_of uses_in uses_from row_operands
  next = s 1 (omega arith)

  -- sll 1, slr 2, sll 3 are three runs
  second : committed (st 1) ≡ true
  unfolding decide Decided.commits join_all plus meets
  second = ap committed (next ∙ ap (λ (x : Decision). decide 2 (below x (shift_at 66) ∷ []) (shift_at 3 ∷ [])) first)

  third : committed (st 2) ≡ false
  unfolding uses_of uses_in uses_from row_operands decide Decided.commits join_all plus meets
  third = ap committed (s 2 (omega arith))

  chosen : commit_set original st ≡ (λ (w : ℕ). eqb w 2)
  unfolding commit_set number_in
  chosen = fun_ext (λ w. go (eqb w 1) (eqb w 2) (eqb w 3) (λ e. rw (eqb-true w 1 e)))
    where
      go : (a b d : Bool) → (a ≡ true → b ≡ false) → committed_at st (cond a 1 (cond b 2 (cond d 3 0))) ≡ b
      go true b d h = ap committed first ∙ sym (h refl)
      go false true d h = second
      go false false true h = third
      go false false false h = refl

-- ---- what fusing leaves

abbrev pub afterwards : Lent
afterwards =
    lent (65537 ∷ 4325378 ∷ 196608 ∷ 0 ∷ []) (4299292674 ∷ 196608 ∷ []) [] [] [] (9223372036854775809 ∷ []) (3 ∷ 2 ∷ 3 ∷ [])
    (12884901889 ∷ 9223372041149743105 ∷ 12884901889 ∷ []) (0 ∷ 0 ∷ 1 ∷ 0 ∷ 9 ∷ [])

abbrev pub counts : Counts
counts = record { gone = 1; stranded = 1; committed = 1; written = 2; kept = 2 }

-- Zero of (2, [slr 2, sll 1]); 3 = 0 is stranded, 2 = (0, sll 3) is committed
abbrev pub result : System
result =
    record {
      wires = 4;
      ands = [];
      imuls = [];
      bmuls = [];
      zeros = ((term 2 66 1 ∷ []) ∷ []) ∷ [];
      linears = record { dst = 3; rhs = term 0 0 0 ∷ [] } ∷ record { dst = 2; rhs = term 0 3 0 ∷ [] } ∷ [];
    }

pub sample_left : left sizes afterwards counts ≡ result
unfolding after system_of operand_of
sample_left = refl

fits : has_room original (λ (w : ℕ). eqb w 2) before ≡ true
unfolding has_room terms_written written rebuilds row_rebuilds rebuilt commits expand_operand expand_term inlined depth push_valid compose_valid degenerates chains
fits = refl

told : counts_of original (λ (w : ℕ). eqb w 2) ≡ counts
unfolding counts_of gone is_gone stranded is_stranded kept terms_written written all_met rebuilds row_rebuilds rebuilt commits met_operand met_term expand_operand expand_term inlined depth push_valid compose_valid degenerates chains
told = refl

leaving : leaves sizes before (λ (w : ℕ). eqb w 2) ≡ afterwards
unfolding leaves flags_of numbers is_kept kept_rows keep_by handles_from system_of operand_of written all_met rebuilds row_rebuilds rebuilt commits met_operand met_term expand_operand expand_term inlined depth push_valid compose_valid degenerates chains
leaving = refl

pub sample_fuses : Fuses 2 sizes before afterwards (told_fused (Ok counts))
sample_fuses =
    let acc = decided_accepted 2 sizes (input before) no_fault no_circles in
    let st : ℕ → Decision = solution 2 (fused sizes before) acc in
    let s : Solves 2 (fused sizes before) st = solution_solves 2 (fused sizes before) acc in
    from st s (ap (λ (p : System). commit_set p st) stands ∙ chosen st (subst (λ (p : System). Solves 2 p st) stands s))
  where
    from : (st : ℕ → Decision) → Solves 2 (fused sizes before) st → commit_set (fused sizes before) st ≡ (λ (w : ℕ). eqb w 2) → Fuses 2 sizes before afterwards (told_fused (Ok counts))
    from st s e =
        let room : has_room (fused sizes before) (commit_set (fused sizes before) st) before ≡ true = rw (e, stands) fits in
        let k : counts_of (fused sizes before) (commit_set (fused sizes before) st) ≡ counts = rw (e, stands) told in
        let q : leaves sizes before (commit_set (fused sizes before) st) ≡ afterwards = ap (leaves sizes before) e ∙ leaving in
        subst (λ (l : Lent). Fuses 2 sizes before l (told_fused (Ok counts))) q
        (subst (λ (n : Counts). Fuses 2 sizes before (leaves sizes before (commit_set (fused sizes before) st)) (told_fused (Ok n))) k
        (fuses_patched 2 sizes before st no_fault no_circles s room))

-- ---- demand 3 of it

pub sample_undone : (Imul Bmul : List ℕ → Type 0) → UndoneOnStores sizes before afterwards counts Imul Bmul
sample_undone Imul Bmul = demand_3_on_stores 2 sizes before afterwards counts Imul Bmul sample_fuses

-- an assignment that satisfies the original, and the same with its uncommitted defined wires, 1 and 3, overwritten
abbrev pub words : List ℕ
words = 2305843009213693952 ∷ 0 ∷ 0 ∷ 2305843009213693952 ∷ []

abbrev pub overwritten : List ℕ
overwritten = 2305843009213693952 ∷ 7 ∷ 0 ∷ 5 ∷ []

assigned : Assignment (fused sizes before) words
unfolding system_of
assigned = record { as_long = refl; all_words = more (lit< tt) (more (lit< tt) (more (lit< tt) (more (lit< tt) done))) }

assigned_over : Assignment (fused sizes before) overwritten
unfolding system_of
assigned_over = record { as_long = refl; all_words = more (lit< tt) (more (lit< tt) (more (lit< tt) (more (lit< tt) done))) }

agrees : Agrees sizes before afterwards words overwritten
unfolding inlined system_of operand_of
agrees zero e = refl
agrees (suc zero) e = absurd (lost (sym e) refl)
agrees (suc (suc zero)) e = refl
agrees (suc (suc (suc zero))) e = absurd (lost (sym e) refl)
agrees (suc (suc (suc (suc i)))) e = refl

module _ (Imul Bmul : List ℕ → Type 0) where
  satisfied : Satisfies Imul Bmul (word_of words) (fused sizes before)
  unfolding system_of operand_of term_value moved shifted
  satisfied = record { ands_hold = done; imuls_hold = done; bmuls_hold = done; zeros_hold = more refl done; linears_hold = more refl (more refl (more refl done)) }

  -- filled back it returns
  pub sample_returns : (vs : List ℕ) → Fills sizes before afterwards overwritten vs 0 → vs ≡ words
  sample_returns vs h = (sample_undone Imul Bmul).returns words overwritten vs assigned assigned_over satisfied agrees h

  -- what stands holds of the overwritten words, but the stranded definition does not: without setting it aside (b) would be false
  pub sample_stands : Satisfies Imul Bmul (word_of overwritten) (set_aside 1 result)
  unfolding set_aside term_value moved shifted
  sample_stands = record { ands_hold = done; imuls_hold = done; bmuls_hold = done; zeros_hold = more refl done; linears_hold = more refl done }

  pub sample_stranded : Satisfies Imul Bmul (word_of overwritten) result → ⊥
  unfolding term_value moved shifted
  sample_stranded h = not_so h.linears_hold
    where
      not_so : All (DefinitionHolds (word_of overwritten)) result.linears → ⊥
      not_so (more e t) = absurd (omega (arith, e))
