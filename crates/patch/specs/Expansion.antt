-- Expansion (01, "The patched lists"): a term through its definition's operand, an operand through its terms.
--
--   folded t u         the shifts of the term t with the shift of u, a term of its definition, folded in as the innermost one
--   descend go w x     what stands below: at Seq what `go` gives of the wire w under the two shifts, else nothing
--   expand D n t       the terms that t is expanded to; D w is what is put in the place of the wire w, none where w stands
--   met D n t          the wires whose definitions are met on the way, in the order in which they are met
--   Fits D n t         on the way no fold is over the budget, and every shift is valid
--   Within D n w       no chain of definitions that begins at w has more than n links
--   IsExpansion D f    what an expansion is, with no bound; IsMet D f, what it meets
--
-- The number n bounds how deep the definitions go. Where it is no less than their depth it changes nothing: `expand` is then the one
-- function that IsExpansion holds of, and `met` the one of IsMet.
--
-- Assumes nothing.
use Rattle.std.specs.Prelude.{◌≡◌, ℕ, zero, suc, List, [], ◌∷◌}
use Rattle.std.proofs.Math.Option.{Option, none, some}
use Rattle.shift.specs.declared.Shift.{Shift}
use Rattle.shift.specs.Shifts.{number_of, shift_at}
use Rattle.operand.specs.declared.PushInner.{PushInner}
use Rattle.operand.specs.declared.PushInner.TheVariants.{Seq, Zero, OverBudget}
use Rattle.operand.specs.Push.{push_valid}
use Rattle.operand.specs.Numbers.{Term, Operand}
use Rattle.lower.specs.Lists.{All}
use Rattle.lower.specs.Accepted.{ShiftsOf}
use Rattle.patch.specs.Lists.{gather}

-- a term after a fold: its shifts are spelt by their numbers
abbrev pub under : ℕ → Shift → Shift → Term
under w i o = record { wire = w; inner = number_of i; outer = number_of o }

abbrev pub folded : Term → Term → PushInner
folded t u = push_valid (shift_at t.inner) (shift_at t.outer) (shift_at u.inner) 2

-- "Zero drops the term and does not go below it"; that OverBudget never occurs is proved
abbrev pub descend : {X : Type 0} → (Term → List X) → ℕ → PushInner → List X
descend go w (Seq i o) = go (under w i o)
descend go w Zero = []
descend go w OverBudget = []

abbrev pub DescendFits : (Term → Type 0) → ℕ → PushInner → Type 0
DescendFits go w (Seq i o) = go (under w i o)
DescendFits go w Zero = Unit {0}
DescendFits go w OverBudget = ⊥

-- what the operand of a definition gives, below a term t that names it
abbrev pub below : {X : Type 0} → (Term → List X) → Term → Operand → List X
below go t rhs = gather (λ (u : Term). descend go u.wire (folded t u)) rhs

abbrev pub BelowFits : (Term → Type 0) → Term → Operand → Type 0
BelowFits go t rhs = All (λ (u : Term). DescendFits go u.wire (folded t u)) rhs

-- "until a committed or undefined wire stands"
abbrev pub expand_by : (Term → List Term) → Term → Option Operand → List Term
expand_by go t none = t ∷ []
expand_by go t (some rhs) = below go t rhs

abbrev pub met_by : (Term → List ℕ) → Term → Option Operand → List ℕ
met_by go t none = []
met_by go t (some rhs) = t.wire ∷ below go t rhs

abbrev pub FitsBy : (Term → Type 0) → Term → Option Operand → Type 0
FitsBy go t none = ShiftsOf t
FitsBy go t (some rhs) = ShiftsOf t × BelowFits go t rhs

module _ (D : ℕ → Option Operand) where
  abbrev pub expand : ℕ → Term → List Term
  expand zero t = t ∷ []
  expand (suc n) t = expand_by (λ u. expand n u) t (D t.wire)

  abbrev pub met : ℕ → Term → List ℕ
  met zero t = []
  met (suc n) t = met_by (λ u. met n u) t (D t.wire)

  abbrev pub Fits : ℕ → Term → Type 0
  Fits zero t = ShiftsOf t
  Fits (suc n) t = FitsBy (λ u. Fits n u) t (D t.wire)

  abbrev pub Within : ℕ → ℕ → Type 0
  Within zero w = D w ≡ none
  Within (suc n) w = (rhs : Operand) → D w ≡ some rhs → All (λ (u : Term). Within n u.wire) rhs

  pub record IsExpansion (f : Term → List Term) : Type 0 where
    pub stops : (t : Term) → D t.wire ≡ none → f t ≡ t ∷ []
    pub opens : (t : Term) (rhs : Operand) → D t.wire ≡ some rhs → f t ≡ below f t rhs

  pub record IsMet (f : Term → List ℕ) : Type 0 where
    pub met_none : (t : Term) → D t.wire ≡ none → f t ≡ []
    pub met_more : (t : Term) (rhs : Operand) → D t.wire ≡ some rhs → f t ≡ t.wire ∷ below f t rhs
