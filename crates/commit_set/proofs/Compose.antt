-- What the decision needs of `compose_valid`: identities, and that two shifts of one variant never are a pair. Assumes nothing.
use mathlib.Core.Path.{◌≡◌, refl, ap}
use Prim.Native.Nat.{ℕ, ◌+◌, ◌-◌}
use native.Mathlib.Omega.{arith}
use mathlib.Core.Bool.{Bool, true, false}
use lib.Dec.{eqb, ltb}
use Rattle.shift.specs.declared.ShiftVariant.{ShiftVariant}
use Rattle.shift.specs.declared.ShiftVariant.TheVariants.{Rotr, Rotr32}
use Rattle.shift.specs.declared.Shift.{Shift}
use Rattle.shift.specs.declared.Makes.TheVariants.{Chain}
use Rattle.shift.specs.declared.Composition.{Composition}
use Rattle.shift.specs.declared.Composition.TheVariants.{Single, Zero, Pair}
use Rattle.shift.specs.Shifts.{by, width_of}
use Rattle.shift.specs.Compose.{turned, past_width, chained_of, degenerates, chains, makes_of, compose_valid}
use Rattle.shift.proofs.Composes.{on_cond}
use Rattle.commit_set.proofs.Sets.{at_each}

-- the shift is an identity
abbrev pub idle : Shift → Bool
idle s = eqb s.amount 0

pub compose_id_first : (i o : Shift) → idle i ≡ true → compose_valid i o ≡ Single o
unfolding compose_valid
compose_id_first i o e = rw e

pub compose_id_last : (i o : Shift) → idle i ≡ false → idle o ≡ true → compose_valid i o ≡ Single i
unfolding compose_valid
compose_id_last i o e h = rw (e, h)

-- two shifts of one variant are a chain of it
same_makes : (v : ShiftVariant) (a b : ℕ) → makes_of (by v a) (by v b) ≡ Chain v
unfolding degenerates chains
same_makes v a b = at_each (λ v. makes_of (by v a) (by v b) ≡ Chain v) (refl, refl, refl, refl, refl, refl, refl, refl) v

compose_same : (v : ShiftVariant) (a b : ℕ) → eqb a 0 ≡ false → eqb b 0 ≡ false → compose_valid (by v a) (by v b) ≡ chained_of v (a + b)
unfolding compose_valid
compose_same v a b e h = rw (e, h, same_makes v a b)

-- What two shifts of the variant v may come to: never a pair, and one shift only of that variant, or an identity.
abbrev pub Kept : ShiftVariant → Composition → Type 0
Kept v (Single m) = idle m ≡ false → m.variant ≡ v
Kept v Zero = Unit
Kept v Pair = ⊥

turned_kept : (v : ShiftVariant) (e : ℕ) → Kept v (turned v e)
turned_kept v e = on_cond (Kept v) (eqb e 0) (λ h k. let z : ◌≡◌ {A = ℕ} 0 1 = cc in absurd (omega arith)) (λ h k. refl)

past_kept : (v : ShiftVariant) (e : ℕ) → Kept v (past_width v e)
past_kept v e =
    at_each (λ v. Kept v (past_width v e)) (tt, tt, λ k. refl, turned_kept Rotr e, tt, tt, λ k. refl, turned_kept Rotr32 e) v

chain_kept : (v : ShiftVariant) (d : ℕ) → Kept v (chained_of v d)
chain_kept v d = on_cond (Kept v) (ltb d (width_of v)) (λ h k. refl) (λ h. past_kept v (d - width_of v))

pub same_kept : (s i : Shift) → idle s ≡ false → idle i ≡ false → i.variant ≡ s.variant → Kept s.variant (compose_valid s i)
same_kept s i hs hi e =
    rw (ap (λ (v : ShiftVariant). compose_valid s (by v i.amount)) e, compose_same s.variant s.amount i.amount hs hi) (chain_kept s.variant (s.amount + i.amount))

pub free_kept : (s i : Shift) → idle s ≡ false → idle i ≡ true → Kept s.variant (compose_valid s i)
free_kept s i hs hi = rw (compose_id_last s i hs hi) (λ e. refl)
