-- The bound of an expansion changes nothing where it is no less than the depth: the rules hold with no bound, and of nothing else.
-- Assumes nothing.
use mathlib.Core.Path.{◌≡◌, refl, sym, ap, ◌∙◌}
use mathlib.Core.Bool.{Bool}
use mathlib.Core.List.{List, [], ◌∷◌}
use mathlib.Core.Option.{Option, none, some}
use Prim.Native.Nat.{ℕ, zero, suc}
use Rattle.operand.specs.declared.PushInner.{PushInner}
use Rattle.operand.specs.declared.PushInner.TheVariants.{Seq, Zero, OverBudget}
use Rattle.operand.specs.Numbers.{Term, Operand}
use Rattle.lower.specs.Lists.{All}
use Rattle.lower.specs.Model.{System}
use Rattle.lower.specs.Accepted.{NoCircle}
use Rattle.patch.specs.Expansion.{folded, descend, DescendFits, below, BelowFits, expand_by, expand, met_by, met, FitsBy, Fits, Within, IsExpansion, IsMet}
use Rattle.patch.specs.Patch.{inlined, depth, expand_term, met_term}
use Rattle.patch.proofs.Parts.{lost, all_each, all_two, gather-same}
use Rattle.patch.proofs.Chains.{deep}

module _ {X : Type 0} (f g : Term → List X) (w : ℕ) (same : (t : Term) → t.wire ≡ w → f t ≡ g t) where
  descend-same : (x : PushInner) → descend f w x ≡ descend g w x
  descend-same (Seq i o) = same _ refl
  descend-same Zero = refl
  descend-same OverBudget = refl

module _ (D : ℕ → Option Operand) where
  -- below a term, for two walks that agree at the wires of its definition
  below-same : {X : Type 0} (f g : Term → List X) (n : ℕ) → ((u : Term) → Within D n u.wire → f u ≡ g u)
      → (t : Term) {rhs : Operand} → All (λ (u : Term). Within D n u.wire) rhs → below f t rhs ≡ below g t rhs
  below-same f g n same t h = gather-same _ _ (all_each (λ u k. descend-same f g u.wire (λ v e. same v (rw e k)) (folded t u)) h)

  expand_steady : (n : ℕ) (t : Term) → Within D n t.wire → expand D (suc n) t ≡ expand D n t
  expand_steady zero t h = rw h
  expand_steady (suc n) t h = step (λ u k. expand_steady n u k) (D t.wire) refl
    where
      step : ((u : Term) → Within D n u.wire → expand D (suc n) u ≡ expand D n u) → (o : Option Operand) → D t.wire ≡ o
          → expand_by (λ u. expand D (suc n) u) t o ≡ expand_by (λ u. expand D n u) t o
      step ih none e = refl
      step ih (some rhs) e = below-same (λ u. expand D (suc n) u) (λ u. expand D n u) n ih t (h rhs e)

  met_steady : (n : ℕ) (t : Term) → Within D n t.wire → met D (suc n) t ≡ met D n t
  met_steady zero t h = rw h
  met_steady (suc n) t h = step (λ u k. met_steady n u k) (D t.wire) refl
    where
      step : ((u : Term) → Within D n u.wire → met D (suc n) u ≡ met D n u) → (o : Option Operand) → D t.wire ≡ o
          → met_by (λ u. met D (suc n) u) t o ≡ met_by (λ u. met D n u) t o
      step ih none e = refl
      step ih (some rhs) e = ap (λ (l : List ℕ). t.wire ∷ l) (below-same (λ u. met D (suc n) u) (λ u. met D n u) n ih t (h rhs e))

  descend-fits-more : (n : ℕ) → ((u : Term) → Within D n u.wire → Fits D n u → Fits D (suc n) u)
      → (i : ℕ) → Within D n i → (x : PushInner) → DescendFits (λ u. Fits D n u) i x → DescendFits (λ u. Fits D (suc n) u) i x
  descend-fits-more n ih i h (Seq a b) k = ih _ h k
  descend-fits-more n ih i h Zero k = tt
  descend-fits-more n ih i h OverBudget k = k

  fits_steady : (n : ℕ) (t : Term) → Within D n t.wire → Fits D n t → Fits D (suc n) t
  fits_steady zero t h k = rw h k
  fits_steady (suc n) t h k = step (λ u l. fits_steady n u l) (D t.wire) refl k
    where
      step : ((u : Term) → Within D n u.wire → Fits D n u → Fits D (suc n) u) → (o : Option Operand) → D t.wire ≡ o
          → FitsBy (λ u. Fits D n u) t o → FitsBy (λ u. Fits D (suc n) u) t o
      step ih none e k = k
      step ih (some rhs) e k = (k.0, all_two (λ u l m. descend-fits-more n ih u.wire l (folded t u) m) (h rhs e) k.1)

  expand_stops : (n : ℕ) (t : Term) → D t.wire ≡ none → expand D n t ≡ t ∷ []
  expand_stops zero t e = refl
  expand_stops (suc n) t e = rw e

  met_stops : (n : ℕ) (t : Term) → D t.wire ≡ none → met D n t ≡ []
  met_stops zero t e = refl
  met_stops (suc n) t e = rw e

  module _ (n : ℕ) (whole : (i : ℕ) → Within D n i) where
    pub is_expansion : IsExpansion D (expand D n)
    is_expansion = record { stops = expand_stops n; opens = λ t rhs e. opens n whole t rhs e }
      where
        opens : (n : ℕ) → ((i : ℕ) → Within D n i) → (t : Term) (rhs : Operand) → D t.wire ≡ some rhs → expand D n t ≡ below (expand D n) t rhs
        opens zero whole t rhs e = absurd (lost e (whole t.wire))
        opens (suc n) whole t rhs e = rw e (below-same _ _ n (λ u k. sym (expand_steady n u k)) t (whole t.wire rhs e))

    pub is_met : IsMet D (met D n)
    is_met = record { met_none = met_stops n; met_more = λ t rhs e. opens n whole t rhs e }
      where
        opens : (n : ℕ) → ((i : ℕ) → Within D n i) → (t : Term) (rhs : Operand) → D t.wire ≡ some rhs → met D n t ≡ t.wire ∷ below (met D n) t rhs
        opens zero whole t rhs e = absurd (lost e (whole t.wire))
        opens (suc n) whole t rhs e = rw e (ap (λ (l : List ℕ). t.wire ∷ l) (below-same _ _ n (λ u k. sym (met_steady n u k)) t (whole t.wire rhs e)))

    pub fits_opens : (t : Term) (rhs : Operand) → D t.wire ≡ some rhs → Fits D n t → BelowFits (Fits D n) t rhs
    fits_opens t rhs e k = opens n whole k
      where
        opens : (n : ℕ) → ((i : ℕ) → Within D n i) → Fits D n t → BelowFits (Fits D n) t rhs
        opens zero whole k = absurd (lost e (whole t.wire))
        opens (suc n) whole k = all_two (λ u l m. descend-fits-more n (λ v a b. fits_steady n v a b) u.wire l (folded t u) m) (whole t.wire rhs e) (rw e at k).1

  -- there is no other
  pub only_expansion : (f : Term → List Term) → IsExpansion D f → (n : ℕ) (t : Term) → Within D n t.wire → f t ≡ expand D n t
  only_expansion f is zero t h = is.stops t h
  only_expansion f is (suc n) t h = step (λ u k. only_expansion f is n u k) (D t.wire) refl
    where
      step : ((u : Term) → Within D n u.wire → f u ≡ expand D n u) → (o : Option Operand) → D t.wire ≡ o → f t ≡ expand_by (λ u. expand D n u) t o
      step ih none e = is.stops t e
      step ih (some rhs) e = is.opens t rhs e ∙ below-same f (λ u. expand D n u) n ih t (h rhs e)

  pub only_met : (f : Term → List ℕ) → IsMet D f → (n : ℕ) (t : Term) → Within D n t.wire → f t ≡ met D n t
  only_met f is zero t h = is.met_none t h
  only_met f is (suc n) t h = step (λ u k. only_met f is n u k) (D t.wire) refl
    where
      step : ((u : Term) → Within D n u.wire → f u ≡ met D n u) → (o : Option Operand) → D t.wire ≡ o → f t ≡ met_by (λ u. met D n u) t o
      step ih none e = is.met_none t e
      step ih (some rhs) e = is.met_more t rhs e ∙ ap (λ (l : List ℕ). t.wire ∷ l) (below-same f (λ u. met D n u) n ih t (h rhs e))

-- THE THEOREM. Where there is no circle, a term's expansion is what the rules say, and what it meets; and nothing else is.
module _ (p : System) (c : ℕ → Bool) (none_circles : NoCircle p) where
  pub term_expansion : IsExpansion (inlined p c) (expand_term p c)
  unfolding expand_term
  term_expansion = is_expansion (inlined p c) (depth p c) (deep p c none_circles)

  pub term_met : IsMet (inlined p c) (met_term p c)
  unfolding met_term
  term_met = is_met (inlined p c) (depth p c) (deep p c none_circles)

  pub term_only : (f : Term → List Term) → IsExpansion (inlined p c) f → (t : Term) → f t ≡ expand_term p c t
  unfolding expand_term
  term_only f is t = only_expansion (inlined p c) f is (depth p c) t (deep p c none_circles t.wire)

  pub met_only : (f : Term → List ℕ) → IsMet (inlined p c) f → (t : Term) → f t ≡ met_term p c t
  unfolding met_term
  met_only f is t = only_met (inlined p c) f is (depth p c) t (deep p c none_circles t.wire)
