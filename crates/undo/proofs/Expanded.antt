-- An expanded operand has the value of the operand, under an assignment in which the inlined definitions hold; and it names none of their
-- wires. Assumes nothing.
use mathlib.Core.Path.{◌≡◌, refl, sym, ap, ap₂, ◌∙◌}
use Prim.Native.Nat.{ℕ, zero, suc}
use mathlib.Core.Bool.{true}
use mathlib.Core.List.{List, [], ◌∷◌}
use mathlib.Core.Option.{Option, none, some}
use lib.Bits.{bit_xor}
use Rattle.operand.specs.declared.PushInner.{PushInner}
use Rattle.operand.specs.declared.PushInner.TheVariants.{Seq, Zero, OverBudget}
use Rattle.operand.specs.Numbers.{Term, Operand}
use Rattle.lower.specs.Lists.{All, done, more}
use Rattle.lower.specs.Values.{moved, term_value, value}
use Rattle.lower.specs.Accepted.{ShiftsOf, is_identity}
use Rattle.lower.proofs.Laws.{all_both}
use Rattle.patch.specs.Lists.{gather}
use Rattle.patch.specs.Expansion.{under, folded, descend, DescendFits, below, BelowFits, expand_by, expand, FitsBy, Fits, Within}
use Rattle.patch.proofs.Parts.{all_each, all_gather}
use Rattle.undo.specs.FillBack.{IsWord}
use Rattle.undo.proofs.Values.{moved_word, moved_xor, moved-zero, moved-identity, thrice, fold_seq, fold_zero, value-append, value_one, term_word, value_word}

-- a term of a definition: valid shifts, the outer one an identity
abbrev pub Sole : Term → Type 0
Sole u = ShiftsOf u × (is_identity u.outer ≡ true)

module _ (w : ℕ → ℕ) (words : (i : ℕ) → IsWord (w i)) where
  -- the shifts of t on the value of an operand
  abbrev through : Term → ℕ → ℕ
  through t x = moved t.outer (moved t.inner x)

  -- one term u of the definition of t
  one : (go : Term → List Term) (ok : Term → Type 0) → ((u : Term) → ok u → value w (go u) ≡ term_value w u)
      → (t u : Term) → ShiftsOf t → Sole u → (x : PushInner) → folded t u ≡ x → DescendFits ok u.wire x
      → value w (descend go u.wire x) ≡ through t (term_value w u)
  unfolding term_value
  one go ok ih t u vt vu x e h =
      step x e h
      ∙ sym (ap (through t) (moved-identity u.outer (moved u.inner (w u.wire)) vu.0.1 vu.1 (moved_word u.inner (w u.wire) (words u.wire))))
    where
      step : (x : PushInner) → folded t u ≡ x → DescendFits ok u.wire x → value w (descend go u.wire x) ≡ thrice t u (w u.wire)
      step (Seq i o) e h = ih (under u.wire i o) h ∙ fold_seq t u vt vu.0.0 i o (w u.wire) e (words u.wire)
      step Zero e h = sym (fold_zero t u vt vu.0.0 (w u.wire) e (words u.wire))
      step OverBudget e h = absurd h

  -- the whole definition of t
  whole : (go : Term → List Term) (ok : Term → Type 0) → ((u : Term) → ok u → value w (go u) ≡ term_value w u)
      → (t : Term) → ShiftsOf t → (rhs : Operand) → All Sole rhs → BelowFits ok t rhs → value w (below go t rhs) ≡ through t (value w rhs)
  whole go ok ih t vt [] s h = sym (ap (moved t.outer) (moved-zero t.inner) ∙ moved-zero t.outer)
  whole go ok ih t vt (u ∷ us) (more su s) (more hu h) =
      value-append w (descend go u.wire (folded t u)) (below go t us)
      ∙ ap₂ bit_xor (one go ok ih t u vt su (folded t u) refl hu) (whole go ok ih t vt us s h)
      ∙ sym
      (ap (moved t.outer) (moved_xor t.inner (term_value w u) (value w us) (term_word w words u) (value_word w words us))
      ∙ moved_xor t.outer (moved t.inner (term_value w u)) (moved t.inner (value w us)) (moved_word t.inner (term_value w u) (term_word w words u)) (moved_word t.inner (value w us) (value_word w words us)))

  module _ (D : ℕ → Option Operand) (sole : (i : ℕ) (rhs : Operand) → D i ≡ some rhs → All Sole rhs)
      (filled : (i : ℕ) (rhs : Operand) → D i ≡ some rhs → w i ≡ value w rhs) where
    pub expand_value : (n : ℕ) (t : Term) → Fits D n t → value w (expand D n t) ≡ term_value w t
    unfolding term_value
    expand_value zero t h = value_one w t
    expand_value (suc n) t h = step (λ u k. expand_value n u k) (D t.wire) refl h
      where
        step : ((u : Term) → Fits D n u → value w (expand D n u) ≡ term_value w u)
            → (o : Option Operand) → D t.wire ≡ o → FitsBy (λ u. Fits D n u) t o → value w (expand_by (λ u. expand D n u) t o) ≡ term_value w t
        step ih none e k = value_one w t
        step ih (some rhs) e k =
            whole (λ u. expand D n u) (λ u. Fits D n u) ih t k.0 rhs (sole t.wire rhs e) k.1
            ∙ ap (through t) (sym (filled t.wire rhs e))

    -- THE KEY LEMMA.
    pub operand_value : (n : ℕ) (a : Operand) → All (Fits D n) a → value w (gather (expand D n) a) ≡ value w a
    operand_value n [] h = refl
    operand_value n (t ∷ ts) (more h k) =
        value-append w (expand D n t) (gather (expand D n) ts) ∙ ap₂ bit_xor (expand_value n t h) (operand_value n ts k)

-- What an expansion ends in: terms whose wires are not inlined.
module _ (D : ℕ → Option Operand) where
  expand_stands : (n : ℕ) (t : Term) → Within D n t.wire → All (λ (u : Term). D u.wire ≡ none) (expand D n t)
  expand_stands zero t h = more h done
  expand_stands (suc n) t h = step (λ u k. expand_stands n u k) (D t.wire) refl
    where
      descended : ((u : Term) → Within D n u.wire → All (λ (v : Term). D v.wire ≡ none) (expand D n u))
          → (u : Term) → Within D n u.wire → (x : PushInner) → All (λ (v : Term). D v.wire ≡ none) (descend (λ u. expand D n u) u.wire x)
      descended ih u k (Seq i o) = ih _ k
      descended ih u k Zero = done
      descended ih u k OverBudget = done

      step : ((u : Term) → Within D n u.wire → All (λ (v : Term). D v.wire ≡ none) (expand D n u))
          → (o : Option Operand) → D t.wire ≡ o → All (λ (v : Term). D v.wire ≡ none) (expand_by (λ u. expand D n u) t o)
      step ih none e = more e done
      step ih (some rhs) e = all_gather _ (all_each (λ u k. descended ih u k (folded t u)) (h rhs e))

  pub operand_stands : (n : ℕ) → ((i : ℕ) → Within D n i) → (a : Operand) → All (λ (u : Term). D u.wire ≡ none) (gather (expand D n) a)
  operand_stands n deep [] = done
  operand_stands n deep (t ∷ ts) = all_both (λ (u : Term). D u.wire ≡ none) (expand_stands n t (deep t.wire)) (operand_stands n deep ts)
