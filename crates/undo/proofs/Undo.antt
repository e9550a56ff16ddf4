-- The five parts of demand 3, over assignments that are functions of a wire, for an accepted system and any set of committed wires under
-- which no fold is over the budget. Assumes nothing.
use mathlib.Core.Path.{◌≡◌, refl, sym, ap₂, ◌∙◌}
use Prim.Native.Nat.{ℕ, ◌<◌}
use mathlib.Core.Bool.{Bool, true, false, not}
use mathlib.Core.List.{List, ◌∷◌, ◌++◌, map}
use mathlib.Core.Option.{some}
use Rattle.operand.specs.Numbers.{Operand}
use Rattle.lower.specs.Lists.{All, done, more, keep, joined}
use Rattle.lower.specs.Model.{Row, Definition, System, definition_operands, definition_of}
use Rattle.lower.specs.Values.{value, AndHolds, ZeroHolds, RowHolds, DefinitionHolds, Satisfies}
use Rattle.lower.specs.Accepted.{ShiftsOf, Accepted}
use Rattle.lower.proofs.Laws.{all_left, all_right, all_both}
use Rattle.lower.proofs.Alls.{all_every, all_zip, all_unjoin, all_unmap}
use Rattle.commit_set.proofs.Members.{all_terms}
use Rattle.patch.specs.Patch.{inlined, depth, expand_term, expand_operand, FitsOperand, rebuilt, patch_rows, commits, row_rebuilds, rhss_of, rebuilds, rebuild, stranded, is_stranded, patched, live, NeverOver}
use Rattle.patch.proofs.Parts.{Which, is_true, is_false, which, not-true, all_keep, all_kept, all_unkept, all_each, all_two, all_three, all_mapped}
use Rattle.patch.proofs.Chains.{inlined_defined, deep}
use Rattle.patch.proofs.Definitions.{looks_up, of_looked_up, committed_clear, not-rebuilt, commits_of, commits_at}
use Rattle.undo.specs.FillBack.{IsWord, Agree, FillsBack, fill_back}
use Rattle.undo.specs.Demand3.{Clear, ClearDefinition, MentionsNone, Undone}
use Rattle.undo.proofs.Values.{value_agree}
use Rattle.undo.proofs.Expanded.{Sole, operand_value, operand_stands}
use Rattle.undo.proofs.Filling.{fill_others, fill-filled, fill_unique, fill_word}

not-false : (b : Bool) → b ≡ false → not b ≡ true
not-false b e = rw e

module _ (p : System) (c : ℕ → Bool) (acc : Accepted p) where
  -- ---- (a)

  expanded_clear : (o : Operand) → All (Clear p c) (expand_operand p c o)
  unfolding expand_operand expand_term
  expanded_clear o = operand_stands (inlined p c) (depth p c) (deep p c acc.no_circle) o

  rows_clear : (rs : List Row) → All (All (All (Clear p c))) (patch_rows p c rs)
  unfolding patch_rows
  rows_clear rs =
      all_both (All (All (Clear p c)))
      (all_kept (λ (r : Row). not (rebuilt p.linears r)) (all_every (λ r k. not-rebuilt p c r (not-true (rebuilt p.linears r) k)) rs))
      (all_mapped (map (expand_operand p c)) (all_every (λ (r : Row). all_mapped (expand_operand p c) (all_every expanded_clear r)) (keep (rebuilt p.linears) rs)))

  commits_clear : All (ClearDefinition p c) (map (rebuild p c) (commits p c))
  unfolding rebuild
  commits_clear = all_mapped (rebuild p c) (commits_of p c λ w rhs k e. (committed_clear p c w k, expanded_clear rhs))

  vanishes : MentionsNone p c (live p c)
  unfolding live
  vanishes =
      record {
        ands_clear = rows_clear p.ands;
        imuls_clear = rows_clear p.imuls;
        bmuls_clear = rows_clear p.bmuls;
        zeros_clear = rows_clear p.zeros;
        linears_clear = commits_clear;
      }

  -- ---- values

  soles : All (λ (d : Definition). All Sole d.rhs) p.linears
  unfolding definition_operands
  soles =
      all_unmap (All Sole) (λ (d : Definition). d.rhs) p.linears
      (all_unjoin Sole (definition_operands p) (all_zip (λ t a b. (a, b)) (joined (definition_operands p)) (all_terms ShiftsOf p acc.shifted) acc.single.definitions_single))

  sole_inlined : (i : ℕ) (rhs : Operand) → inlined p c i ≡ some rhs → All Sole rhs
  sole_inlined i rhs e = of_looked_up {P = λ (d : Definition). All Sole d.rhs} soles i rhs (inlined_defined p c i rhs e)

  module _ (w v : ℕ → ℕ) (words : (i : ℕ) → IsWord (v i)) (fb : FillsBack p c w v) where
    -- an operand that names no inlined wire has one value under both
    clear_value : {a : Operand} → All (Clear p c) a → value w a ≡ value v a
    clear_value h = value_agree w v (all_each (λ t k. sym (fb.others t.wire k)) h)

    -- the expanded operand under w has the value of the operand under v
    expanded_value : (a : Operand) → FitsOperand p c a → value w (expand_operand p c a) ≡ value v a
    unfolding expand_operand expand_term
    expanded_value a h =
        clear_value (operand_stands (inlined p c) (depth p c) (deep p c acc.no_circle) a)
        ∙ operand_value v words (inlined p c) sole_inlined fb.filled (depth p c) a h

    clear_row : {r : Row} → All (All (Clear p c)) r → map (value w) r ≡ map (value v) r
    clear_row done = refl
    clear_row (more h t) = ap₂ {C = List ℕ} ◌∷◌ (clear_value h) (clear_row t)

    expanded_row : {r : Row} → All (FitsOperand p c) r → map (value w) (map (expand_operand p c) r) ≡ map (value v) r
    expanded_row done = refl
    expanded_row (more {x = a} h t) = ap₂ {C = List ℕ} ◌∷◌ (expanded_value a h) (expanded_row t)

    module _ (R : List ℕ → Type 0) (rs : List Row) (fit : All (λ (r : Row). rebuilt p.linears r ≡ true → All (FitsOperand p c) r) rs) where
      rows_back : All (RowHolds R w) (patch_rows p c rs) → All (RowHolds R v) rs
      unfolding patch_rows
      rows_back h =
          all_three (λ r f k m. step r f k m (which (rebuilt p.linears r))) fit
          (all_unkept (λ (r : Row). not (rebuilt p.linears r)) rs (all_left (RowHolds R w) (keep (λ (r : Row). not (rebuilt p.linears r)) rs) (map (map (expand_operand p c)) (keep (rebuilt p.linears) rs)) h))
          (all_unkept (rebuilt p.linears) rs
          (all_unmap (RowHolds R w) (map (expand_operand p c)) (keep (rebuilt p.linears) rs)
          (all_right (RowHolds R w) (keep (λ (r : Row). not (rebuilt p.linears r)) rs) (map (map (expand_operand p c)) (keep (rebuilt p.linears) rs)) h)))
        where
          step : (r : Row) → (rebuilt p.linears r ≡ true → All (FitsOperand p c) r) → (not (rebuilt p.linears r) ≡ true → RowHolds R w r)
              → (rebuilt p.linears r ≡ true → RowHolds R w (map (expand_operand p c) r)) → Which (rebuilt p.linears r) → RowHolds R v r
          step r f k m (is_true e) = rw (expanded_row (f e)) at (m e)
          step r f k m (is_false e) = rw (clear_row (not-rebuilt p c r e)) at (k (not-false (rebuilt p.linears r) e))

      rows_forth : All (RowHolds R v) rs → All (RowHolds R w) (patch_rows p c rs)
      unfolding patch_rows
      rows_forth h =
          all_both (RowHolds R w)
          (all_kept (λ (r : Row). not (rebuilt p.linears r)) (all_each (λ r k e. rw (clear_row (not-rebuilt p c r (not-true (rebuilt p.linears r) e))) k) h))
          (all_mapped (map (expand_operand p c)) (all_kept (rebuilt p.linears) (all_two (λ r f k e. rw (expanded_row {r = r} (f e)) k) fit h)))

    module _ (fit : All (λ (d : Definition). FitsOperand p c d.rhs) (commits p c)) where
      linears_back : All (DefinitionHolds w) (map (rebuild p c) (commits p c)) → All (DefinitionHolds v) p.linears
      unfolding inlined rebuild
      linears_back h = all_two (λ d b e. step d b e (which (c d.dst))) acc.named.destinations_named (looks_up p.linears acc.once)
        where
          step : (d : Definition) → d.dst < p.wires → definition_of p.linears d.dst ≡ some d.rhs → Which (c d.dst) → DefinitionHolds v d
          step d b e (is_true k) =
              sym (expanded_value d.rhs (commits_at p c fit d.dst d.rhs b k e))
              ∙ commits_at p c (all_unmap (DefinitionHolds w) (rebuild p c) (commits p c) h) d.dst d.rhs b k e
              ∙ sym (fb.others d.dst (committed_clear p c d.dst k))
          step d b e (is_false k) = sym (fb.filled d.dst d.rhs (rw k e))

      linears_forth : All (DefinitionHolds v) p.linears → All (DefinitionHolds w) (map (rebuild p c) (commits p c))
      unfolding rebuild
      linears_forth h =
          all_mapped (rebuild p c)
          (all_two (λ d f k. expanded_value d.rhs f ∙ k) fit
          (commits_of p c λ i rhs k e. of_looked_up h i rhs e ∙ fb.others i (committed_clear p c i k)))

  -- ---- what has to fit, list by list

  record Fitting : Type 0 where
    ands_fit : All (λ (r : Row). rebuilt p.linears r ≡ true → All (FitsOperand p c) r) p.ands
    imuls_fit : All (λ (r : Row). rebuilt p.linears r ≡ true → All (FitsOperand p c) r) p.imuls
    bmuls_fit : All (λ (r : Row). rebuilt p.linears r ≡ true → All (FitsOperand p c) r) p.bmuls
    zeros_fit : All (λ (r : Row). rebuilt p.linears r ≡ true → All (FitsOperand p c) r) p.zeros
    commits_fit : All (λ (d : Definition). FitsOperand p c d.rhs) (commits p c)

  rows_fit : (rs : List Row) → All (FitsOperand p c) (row_rebuilds p c rs) → All (λ (r : Row). rebuilt p.linears r ≡ true → All (FitsOperand p c) r) rs
  unfolding row_rebuilds
  rows_fit rs h = all_unkept (rebuilt p.linears) rs (all_unjoin (FitsOperand p c) (keep (rebuilt p.linears) rs) h)

  fitting : NeverOver p c → Fitting
  unfolding rebuilds
  fitting h =
      let F = FitsOperand p c in
      let A = row_rebuilds p c p.ands in let I = row_rebuilds p c p.imuls in let B = row_rebuilds p c p.bmuls in let Z = row_rebuilds p c p.zeros in let C = rhss_of (commits p c) in
      let h1 = all_right F A (I ++ (B ++ (Z ++ C))) h in
      let h2 = all_right F I (B ++ (Z ++ C)) h1 in
      let h3 = all_right F B (Z ++ C) h2 in
      record {
        ands_fit = rows_fit p.ands (all_left F A (I ++ (B ++ (Z ++ C))) h);
        imuls_fit = rows_fit p.imuls (all_left F I (B ++ (Z ++ C)) h1);
        bmuls_fit = rows_fit p.bmuls (all_left F B (Z ++ C) h2);
        zeros_fit = rows_fit p.zeros (all_left F Z C h3);
        commits_fit = all_unmap F (λ (d : Definition). d.rhs) (commits p c) (all_right F Z C h3);
      }

  -- ---- filling back

  pub filling : (w : ℕ → ℕ) → FillsBack p c w (fill_back p c w)
  unfolding fill_back
  filling w = record { others = fill_others (inlined p c) w (depth p c); filled = fill-filled (inlined p c) w (depth p c) (deep p c acc.no_circle) }

  pub one_filling : (w v : ℕ → ℕ) → FillsBack p c w v → (i : ℕ) → v i ≡ fill_back p c w i
  unfolding fill_back
  one_filling w v fb i = fill_unique (inlined p c) w v fb.others fb.filled (depth p c) i (deep p c acc.no_circle i)

  filling_words : (w v : ℕ → ℕ) → ((i : ℕ) → IsWord (w i)) → FillsBack p c w v → (i : ℕ) → IsWord (v i)
  unfolding fill_back
  filling_words w v words fb i = rw (one_filling w v fb i) (fill_word (inlined p c) w words (depth p c) i)

  -- ---- (b) to (e)

  module _ (Imul Bmul : List ℕ → Type 0) where
    module _ (w v : ℕ → ℕ) (words : (i : ℕ) → IsWord (v i)) (fb : FillsBack p c w v) (fit : Fitting) where
      back : Satisfies Imul Bmul w (live p c) → Satisfies Imul Bmul v p
      unfolding live
      back h =
          record {
            ands_hold = rows_back w v words fb AndHolds p.ands fit.ands_fit h.ands_hold;
            imuls_hold = rows_back w v words fb Imul p.imuls fit.imuls_fit h.imuls_hold;
            bmuls_hold = rows_back w v words fb Bmul p.bmuls fit.bmuls_fit h.bmuls_hold;
            zeros_hold = rows_back w v words fb ZeroHolds p.zeros fit.zeros_fit h.zeros_hold;
            linears_hold = linears_back w v words fb fit.commits_fit h.linears_hold;
          }

      forth : Satisfies Imul Bmul v p → Satisfies Imul Bmul w (live p c)
      unfolding live
      forth h =
          record {
            ands_hold = rows_forth w v words fb AndHolds p.ands fit.ands_fit h.ands_hold;
            imuls_hold = rows_forth w v words fb Imul p.imuls fit.imuls_fit h.imuls_hold;
            bmuls_hold = rows_forth w v words fb Bmul p.bmuls fit.bmuls_fit h.bmuls_hold;
            zeros_hold = rows_forth w v words fb ZeroHolds p.zeros fit.zeros_fit h.zeros_hold;
            linears_hold = linears_forth w v words fb fit.commits_fit h.linears_hold;
          }

    -- an assignment that satisfies the originals, and differs from w on uncommitted defined wires only, is w filled back
    no_other : (w v : ℕ → ℕ) → Agree p c w v → Satisfies Imul Bmul v p → FillsBack p c w v
    no_other w v agree h = record { others = agree; filled = λ i rhs e. sym (of_looked_up h.linears_hold i rhs (inlined_defined p c i rhs e)) }

    still : Fitting → (w : ℕ → ℕ) → ((i : ℕ) → IsWord (w i)) → Satisfies Imul Bmul w p → Satisfies Imul Bmul w (patched p c)
    unfolding stranded patched live
    still fit w words h =
        let k = forth w w words (no_other w w (λ i e. refl) h) fit h in
        record {
          ands_hold = k.ands_hold;
          imuls_hold = k.imuls_hold;
          bmuls_hold = k.bmuls_hold;
          zeros_hold = k.zeros_hold;
          linears_hold = all_both (DefinitionHolds w) (all_keep (is_stranded p c) h.linears_hold) k.linears_hold;
        }

    returns : (w v u : ℕ → ℕ) → Satisfies Imul Bmul w p → Agree p c w v → FillsBack p c v u → (i : ℕ) → u i ≡ w i
    returns w v u h agree fb i = one_filling v u fb i ∙ sym (one_filling v w (no_other v w (λ j e. sym (agree j e)) h) i)

    -- THE THEOREM, over functions of a wire.
    pub undone : NeverOver p c → Undone p c Imul Bmul
    undone never =
        let fit = fitting never in
        record {
          vanished = vanishes;
          fills = filling;
          one_filling = one_filling;
          exactly = λ w v words fb. (back w v (filling_words w v words fb) fb fit, forth w v (filling_words w v words fb) fb fit);
          no_other = no_other;
          still = still fit;
          returns = returns;
        }
