-- While an accepted system is patched by a solution for one or two slots, no fold is over the budget, and every shift is valid.
-- Assumes nothing.
use mathlib.Core.Path.{◌≡◌, refl, sym, ◌∙◌, subst}
use Prim.Native.Nat.{ℕ, zero, suc, ◌≤◌, ◌<◌}
use mathlib.Core.Bool.{true, false}
use mathlib.Core.List.{List, ◌++◌, Memᴰ}
use mathlib.Core.Option.{Option, none, some}
use lib.ListN.{length}
use Rattle.shift.specs.Shifts.{shift_at}
use Rattle.shift.proofs.Numbers.{number-back, number-valid, valid_at}
use Rattle.operand.specs.declared.PushInner.{PushInner}
use Rattle.operand.specs.declared.PushInner.TheVariants.{Seq, Zero, OverBudget}
use Rattle.operand.specs.Numbers.{Term, Operand}
use Rattle.lower.specs.Lists.{All, done, more, keep, joined}
use Rattle.lower.specs.Model.{Row, Definition, System, row_operands}
use Rattle.lower.specs.Accepted.{ShiftsOf, Shifted, Single}
use Rattle.lower.proofs.Laws.{all_left, all_right, all_both}
use Rattle.lower.proofs.Alls.{all_join, all_unjoin}
use Rattle.legraph.specs.Uses.{rhs_of, dst_of}
use Rattle.commit_set.specs.declared.Decision.{Decision}
use Rattle.commit_set.specs.Decision.{Solves}
use Rattle.commit_set.specs.Paths.{committed}
use Rattle.commit_set.proofs.Members.{root_shifted, term_shifted}
use Rattle.commit_set.proofs.Budget.{Held, held_root, held-committed, held-through, fold_within}
use Rattle.commit_set.proofs.Valids.{fold_valid}
use Rattle.patch.specs.Expansion.{folded, descend, DescendFits, BelowFits, expand_by, expand, FitsBy, Fits}
use Rattle.patch.specs.Patch.{commit_set, inlined, depth, commits, rebuilt, row_rebuilds, rhss_of, rebuilds, NeverOver}
use Rattle.patch.proofs.Parts.{all_keep, all_each, all_mapped, all_gather, all_members}
use Rattle.patch.proofs.Chains.{inlined_defined}
use Rattle.patch.proofs.Definitions.{stands, inlined_uncommitted, commits_of}

-- ---- any expansion

module _ (D : ℕ → Option Operand) where
  pub fits_shifts : (n : ℕ) (t : Term) → Fits D n t → ShiftsOf t
  fits_shifts zero t h = h
  fits_shifts (suc n) t h = step (D t.wire) h
    where
      step : (o : Option Operand) → FitsBy (λ u. Fits D n u) t o → ShiftsOf t
      step none k = k
      step (some rhs) k = k.0

  -- what is expanded to has valid shifts
  pub expanded_shifts : (n : ℕ) (t : Term) → Fits D n t → All ShiftsOf (expand D n t)
  expanded_shifts zero t h = more h done
  expanded_shifts (suc n) t h = step (λ u k. expanded_shifts n u k) (D t.wire) h
    where
      descended : ((u : Term) → Fits D n u → All ShiftsOf (expand D n u)) → (w : ℕ) (x : PushInner) → DescendFits (λ u. Fits D n u) w x
          → All ShiftsOf (descend (λ u. expand D n u) w x)
      descended ih w (Seq i o) k = ih _ k
      descended ih w Zero k = done
      descended ih w OverBudget k = done

      step : ((u : Term) → Fits D n u → All ShiftsOf (expand D n u)) → (o : Option Operand) → FitsBy (λ u. Fits D n u) t o
          → All ShiftsOf (expand_by (λ u. expand D n u) t o)
      step ih none k = more k done
      step ih (some rhs) k = all_gather (λ (u : Term). descend (λ u. expand D n u) u.wire (folded t u)) (all_each (λ u m. descended ih u.wire (folded t u) m) k.1)

  -- to show that an expansion fits: what holds of the term, passes to the terms below it, and rules OverBudget out
  module _ (Inv : Term → Type 0) (shifts : (t : Term) → Inv t → ShiftsOf t)
      (pass : (t : Term) (rhs : Operand) → Inv t → D t.wire ≡ some rhs → BelowFits Inv t rhs) where
    pub fits_by : (n : ℕ) (t : Term) → Inv t → Fits D n t
    fits_by zero t h = shifts t h
    fits_by (suc n) t h = step (λ u k. fits_by n u k) (D t.wire) refl
      where
        descended : ((u : Term) → Inv u → Fits D n u) → (w : ℕ) (x : PushInner) → DescendFits Inv w x → DescendFits (λ u. Fits D n u) w x
        descended ih w (Seq i o) k = ih _ k
        descended ih w Zero k = tt
        descended ih w OverBudget k = absurd k

        step : ((u : Term) → Inv u → Fits D n u) → (o : Option Operand) → D t.wire ≡ o → FitsBy (λ u. Fits D n u) t o
        step ih none e = shifts t h
        step ih (some rhs) e = (shifts t h, all_each (λ u k. descended ih u.wire (folded t u) k) (pass t rhs h e))

-- ---- the expansions of a solution

module _ (slots : ℕ) (p : System) (st : ℕ → Decision) (solves : Solves slots p st) where
  -- what holds of every term that patching comes to
  pub record Covered (t : Term) : Type 0 where
    pub shifts : ShiftsOf t
    pub held : Held slots p st solves t.wire (shift_at t.inner) (shift_at t.outer)

  module _ (few : slots ≤ 2) (shifted : Shifted p) where
    -- one term of a definition that is inlined
    one : (t u : Term) (d : ℕ) → Covered t → d < length p.linears → t.wire ≡ dst_of p d → committed (st d) ≡ false → Memᴰ u (rhs_of p d)
        → (x : PushInner) → folded t u ≡ x → DescendFits Covered u.wire x
    one t u d h l q k m (Seq i o) e =
        let v = fold_valid (shift_at t.inner) (shift_at t.outer) (shift_at u.inner) i o (valid_at t.inner h.shifts.0) (valid_at t.outer h.shifts.1)
        (valid_at u.inner (term_shifted p shifted u d l m).0) e in
        record {
          shifts = (number-valid i v.0, number-valid o v.1);
          held = rw (number-back i v.0, number-back o v.1)
              (held-through slots p st solves t.wire (shift_at t.inner) (shift_at t.outer) i o u d h.held l q k m e);
        }
    one t u d h l q k m Zero e = tt
    one t u d h l q k m OverBudget e =
        let c = h.held d l q in
        fold_within slots p st solves d l k (shift_at t.inner) (shift_at t.outer) c.0 c.1 c.2 u m few e

    pub pass : (t : Term) (rhs : Operand) → Covered t → inlined p (commit_set p st) t.wire ≡ some rhs → BelowFits Covered t rhs
    pass t rhs h e =
        let f = stands p st t.wire rhs (inlined_defined p (commit_set p st) t.wire rhs e) in
        let k : committed (st f.0) ≡ false = sym f.1.decided ∙ inlined_uncommitted p (commit_set p st) t.wire rhs e in
        all_members rhs λ u m. one t u f.0 h f.1.under f.1.wire k (subst (λ (o : Operand). Memᴰ u o) (sym f.1.right) m) (folded t u) refl

    pub term_fits : (t : Term) → Covered t → Fits (inlined p (commit_set p st)) (depth p (commit_set p st)) t
    term_fits = fits_by (inlined p (commit_set p st)) Covered (λ t h. h.shifts) pass (depth p (commit_set p st))

    module _ (single : Single p) where
      pub root_covered : (t : Term) → Memᴰ t (joined (row_operands p)) → Covered t
      root_covered t m = record { shifts = root_shifted p shifted t m; held = held_root slots p st solves single t m }

      pub committed_covered : (t : Term) (e : ℕ) → e < length p.linears → committed (st e) ≡ true → Memᴰ t (rhs_of p e) → Covered t
      committed_covered t e l k m = record { shifts = term_shifted p shifted t e l m; held = held-committed slots p st solves single t e l k m }

      rows_covered : (rs : List Row) → All (All Covered) (joined rs) → All (All Covered) (row_rebuilds p (commit_set p st) rs)
      unfolding row_rebuilds
      rows_covered rs h = all_join (All Covered) (keep (rebuilt p.linears) rs) (all_keep (rebuilt p.linears) (all_unjoin (All Covered) rs h))

      commits_covered : All (All Covered) (rhss_of (commits p (commit_set p st)))
      commits_covered =
          all_mapped (λ (d : Definition). d.rhs)
          (commits_of p (commit_set p st) {Q = λ (d : Definition). All Covered d.rhs} λ w rhs k e.
          let f = stands p st w rhs e in
          all_members rhs λ u m.
          committed_covered u f.0 f.1.under (sym f.1.decided ∙ k) (subst (λ (o : Operand). Memᴰ u o) (sym f.1.right) m))

      pub all_covered : All (All Covered) (rebuilds p (commit_set p st))
      unfolding rebuilds row_operands
      all_covered =
          let r : All (All Covered) (row_operands p) = all_unjoin Covered (row_operands p) (all_members (joined (row_operands p)) root_covered) in
          let r1 = all_right (All Covered) (joined p.ands) (joined p.imuls ++ (joined p.bmuls ++ joined p.zeros)) r in
          let r2 = all_right (All Covered) (joined p.imuls) (joined p.bmuls ++ joined p.zeros) r1 in
          all_both (All Covered) (rows_covered p.ands (all_left (All Covered) (joined p.ands) (joined p.imuls ++ (joined p.bmuls ++ joined p.zeros)) r))
          (all_both (All Covered) (rows_covered p.imuls (all_left (All Covered) (joined p.imuls) (joined p.bmuls ++ joined p.zeros) r1))
          (all_both (All Covered) (rows_covered p.bmuls (all_left (All Covered) (joined p.bmuls) (joined p.zeros) r2))
          (all_both (All Covered) (rows_covered p.zeros (all_right (All Covered) (joined p.bmuls) (joined p.zeros) r2))
          commits_covered)))

      -- THE THEOREM. No fold is over the budget while an operand is rebuilt, and every shift is valid.
      pub never_over : NeverOver p (commit_set p st)
      never_over = all_each (λ o h. all_each term_fits h) all_covered
