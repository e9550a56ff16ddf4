-- A refusal's number is not 0, and no other's. Assumes nothing.
use Rattle.std.proofs.Common.{◌≡◌, refl, sym, ap, ◌∙◌, ℕ, zero, suc, List, [], ◌∷◌, arith, Result}
use Rattle.std.specs.Result.{IsErrAnd}
use Rattle.std.proofs.lemmas.Result.{err_from_is_err_and}
use Rattle.refusal.specs.declared.Refusal.{Refusal}
use Rattle.refusal.specs.declared.Refusal.TheVariants as R
use Rattle.refusal.specs.Refusals.{number_of, fault_in}
use Rattle.lower.specs.Faults.{or_else}

-- the refusal of a number
back : ℕ → Refusal
back n = at n (R.Cut ∷ R.Cut ∷ R.Tag ∷ R.Shape ∷ R.Shift ∷ R.Wire ∷ R.Full ∷ R.Slots ∷ R.Twice ∷ R.Empty ∷ R.Double ∷ R.Circle ∷ R.Room ∷ R.Size ∷ R.Wide ∷ [])
  where
    at : ℕ → List Refusal → Refusal
    at n [] = R.Cut
    at zero (r ∷ rs) = r
    at (suc n) (r ∷ rs) = at n rs

there : (r : Refusal) → (back (number_of r) ≡ r) × (number_of r ≡ 0 → ⊥)
unfolding back
there R.Cut = (refl, λ h. absurd (omega arith))
there R.Tag = (refl, λ h. absurd (omega arith))
there R.Shape = (refl, λ h. absurd (omega arith))
there R.Shift = (refl, λ h. absurd (omega arith))
there R.Wire = (refl, λ h. absurd (omega arith))
there R.Full = (refl, λ h. absurd (omega arith))
there R.Slots = (refl, λ h. absurd (omega arith))
there R.Twice = (refl, λ h. absurd (omega arith))
there R.Empty = (refl, λ h. absurd (omega arith))
there R.Double = (refl, λ h. absurd (omega arith))
there R.Circle = (refl, λ h. absurd (omega arith))
there R.Room = (refl, λ h. absurd (omega arith))
there R.Size = (refl, λ h. absurd (omega arith))
there R.Wide = (refl, λ h. absurd (omega arith))

pub number_some : (r : Refusal) → number_of r ≡ 0 → ⊥
number_some r = (there r).1

pub number_once : (r s : Refusal) → number_of r ≡ number_of s → r ≡ s
number_once r s e = sym (there r).0 ∙ ap back e ∙ (there s).0

-- a refusal is the first fault where it is the one before the other
pub else_refused : (r : Refusal) (a b : ℕ) → number_of r ≡ a → number_of r ≡ or_else a b
else_refused r zero b e = absurd (number_some r e)
else_refused r (suc a) b e = e

-- what a `?` returns: the refusal that it met; where the check comes before another, the fault of both
pub exit_is : {A : Type 0} (x : Result A Refusal) (r : Refusal) (n : ℕ) → IsErrAnd x (λ y. y ≡ r) → number_of r ≡ n → fault_in x ≡ n
exit_is x r n h e = let p = err_from_is_err_and x h in rw (p.1, p.2) e

pub exit_else : {A : Type 0} (x : Result A Refusal) (r : Refusal) (a b : ℕ) → IsErrAnd x (λ y. y ≡ r) → number_of r ≡ a → fault_in x ≡ or_else a b
exit_else x r a b h e = exit_is x r (or_else a b) h (else_refused r a b e)
