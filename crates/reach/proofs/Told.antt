-- Gone and stranded definitions by their masks; and all of it for an accepted system and the decisions for one or two slots.
-- Assumes nothing.
use mathlib.Core.Path.{◌≡◌, refl, sym, ap, ◌∙◌}
use mathlib.Core.Logic.{◌↔◌}
use Prim.Native.Nat.{ℕ, ◌≤◌}
use native.Mathlib.Decide.{ℕ_discrete}
use mathlib.Core.Bool.{Bool, true, false, not, ◌&&◌}
use mathlib.Core.List.{[], Memᴰ}
use mathlib.Core.Option.{some}
use lib.Dec.{eqb}
use borrow.Author.Tests.{eq-eqb, ne_eqb}
use Rattle.operand.specs.Numbers.{Term, Operand}
use Rattle.lower.specs.Lists.{some_of}
use Rattle.lower.specs.Model.{Definition, System}
use Rattle.lower.specs.Accepted.{Shifted, Single, Once, NoCircle, Accepted}
use Rattle.commit_set.specs.declared.Decision.{Decision}
use Rattle.commit_set.specs.Decision.{Solves}
use Rattle.patch.specs.Expansion.{Fits}
use Rattle.patch.specs.Patch.{commit_set, inlined, depth, expand_term, all_met, is_gone, is_stranded, NeverOver}
use Rattle.patch.proofs.Parts.{Which, is_true, is_false, which, clash}
use Rattle.patch.proofs.NeverOver.{never_over}
use Rattle.reach.specs.Alive.{carried, alive_wire}
use Rattle.reach.specs.Reach.{IsReach}
use Rattle.reach.proofs.Writing.{term_writes}
use Rattle.reach.proofs.Reaching.{put_in, met_masks}

module _ (p : System) (c : ℕ → Bool) (once : Once p.linears) (no_circle : NoCircle p) (over : NeverOver p c) (shifted : Shifted p) (single : Single p)
    (r : ℕ → ℕ) (is : IsReach p c r) where
  -- an uncommitted definition is met just where its mask is not 0
  met_told : (d : Definition) → Memᴰ d p.linears → c d.dst ≡ false → some_of (eqb d.dst) (all_met p c) ≡ not (eqb (r d.dst) 0)
  met_told d m e = step (which (some_of (eqb d.dst) (all_met p c)))
    where
      told : some_of (eqb d.dst) (all_met p c) ≡ true ↔ (r d.dst ≡ 0 → ⊥)
      told = met_masks p c once no_circle over shifted r is single d.dst d.rhs (put_in p c once no_circle d m e)

      step : Which (some_of (eqb d.dst) (all_met p c)) → some_of (eqb d.dst) (all_met p c) ≡ not (eqb (r d.dst) 0)
      step (is_true q) = q ∙ ap not (sym (ne_eqb (r d.dst) 0 (told.0 q)))
      step (is_false q) =
          let z : eqb (r d.dst) 0 ≡ true = elim (ℕ_discrete (r d.dst) 0) [ yes k ↦ eq-eqb (r d.dst) 0 k | no k ↦ absurd (clash (told.1 k) q) ] in
          q ∙ ap not (sym z)

  both : (f : Bool → Bool) (d : Definition) → Memᴰ d p.linears
      → (not (c d.dst) && f (some_of (eqb d.dst) (all_met p c))) ≡ (not (c d.dst) && f (not (eqb (r d.dst) 0)))
  both f d m = step (c d.dst) refl
    where
      step : (b : Bool) → c d.dst ≡ b → (not b && f (some_of (eqb d.dst) (all_met p c))) ≡ (not b && f (not (eqb (r d.dst) 0)))
      step true e = refl
      step false e = ap f (met_told d m e)

  -- "An uncommitted definition met is gone; one never met is stranded"
  pub gone_told : (d : Definition) → Memᴰ d p.linears → is_gone p c d ≡ (not (c d.dst) && not (eqb (r d.dst) 0))
  unfolding is_gone
  gone_told = both (λ b. b)

  pub stranded_told : (d : Definition) → Memᴰ d p.linears → is_stranded p c d ≡ (not (c d.dst) && not (not (eqb (r d.dst) 0)))
  unfolding is_stranded
  stranded_told = both not

-- THE THEOREMS for an accepted system and a solution for one or two slots.
module _ (slots : ℕ) (p : System) (st : ℕ → Decision) (solves : Solves slots p st) (few : slots ≤ 2) (a : Accepted p) where
  abbrev c : ℕ → Bool
  c = commit_set p st

  over : NeverOver p c
  over = never_over slots p st solves few a.shifted a.single

  -- whether a term that names an uncommitted definition is expanded to nothing
  pub nothing_told : (t : Term) (rhs : Operand) → inlined p c t.wire ≡ some rhs → Fits (inlined p c) (depth p c) t
      → expand_term p c t ≡ [] ↔ carried t (alive_wire p c t.wire) ≡ 0
  nothing_told = term_writes p c a.shifted

  module _ (r : ℕ → ℕ) (is : IsReach p c r) where
    pub gone_by_mask : (d : Definition) → Memᴰ d p.linears → is_gone p c d ≡ (not (c d.dst) && not (eqb (r d.dst) 0))
    gone_by_mask = gone_told p c a.once a.no_circle over a.shifted a.single r is

    pub stranded_by_mask : (d : Definition) → Memᴰ d p.linears → is_stranded p c d ≡ (not (c d.dst) && not (not (eqb (r d.dst) 0)))
    stranded_by_mask = stranded_told p c a.once a.no_circle over a.shifted a.single r is
