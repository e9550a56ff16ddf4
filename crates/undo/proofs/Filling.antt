-- Filling back exists, and there is only one. Assumes nothing.
use mathlib.Core.Path.{◌≡◌, refl, sym, ◌∙◌}
use mathlib.Core.Option.{Option, none, some}
use Prim.Native.Nat.{ℕ, zero, suc}
use Rattle.operand.specs.Numbers.{Operand}
use Rattle.lower.specs.Values.{value}
use Rattle.patch.specs.Expansion.{Within}
use Rattle.patch.proofs.Parts.{all_each}
use Rattle.undo.specs.FillBack.{IsWord, fill_by, fill}
use Rattle.undo.proofs.Values.{value_word, value_agree}

module _ (D : ℕ → Option Operand) (w : ℕ → ℕ) where
  -- more depth than there is changes nothing
  stable : (n i : ℕ) → Within D n i → fill D (suc n) w i ≡ fill D n w i
  stable zero i h = rw h
  stable (suc n) i h = step (λ j k. stable n j k) (D i) refl
    where
      step : ((j : ℕ) → Within D n j → fill D (suc n) w j ≡ fill D n w j) → (o : Option Operand) → D i ≡ o
          → fill_by (λ j. fill D (suc n) w j) (w i) o ≡ fill_by (λ j. fill D n w j) (w i) o
      step ih none e = refl
      step ih (some rhs) e = value_agree _ _ (all_each (λ u k. ih u.wire k) (h rhs e))

  pub fill_others : (n i : ℕ) → D i ≡ none → fill D n w i ≡ w i
  fill_others zero i e = refl
  fill_others (suc n) i e = rw e

  pub fill-filled : (n : ℕ) → ((i : ℕ) → Within D n i) → (i : ℕ) (rhs : Operand) → D i ≡ some rhs → fill D n w i ≡ value (fill D n w) rhs
  fill-filled zero deep i rhs e = let h : D i ≡ none = deep i in cc
  fill-filled (suc n) deep i rhs e = rw e (value_agree _ _ (all_each (λ u k. sym (stable n u.wire k)) (deep i rhs e)))

  pub fill_unique : (v : ℕ → ℕ) → ((i : ℕ) → D i ≡ none → v i ≡ w i) → ((i : ℕ) (rhs : Operand) → D i ≡ some rhs → v i ≡ value v rhs)
      → (n i : ℕ) → Within D n i → v i ≡ fill D n w i
  fill_unique v others filled zero i h = others i h
  fill_unique v others filled (suc n) i h = step (λ j k. fill_unique v others filled n j k) (D i) refl
    where
      step : ((j : ℕ) → Within D n j → v j ≡ fill D n w j) → (o : Option Operand) → D i ≡ o → v i ≡ fill_by (λ j. fill D n w j) (w i) o
      step ih none e = others i e
      step ih (some rhs) e = filled i rhs e ∙ value_agree _ _ (all_each (λ u k. ih u.wire k) (h rhs e))

  pub fill_word : ((i : ℕ) → IsWord (w i)) → (n i : ℕ) → IsWord (fill D n w i)
  fill_word words zero i = words i
  fill_word words (suc n) i = step (λ j. fill_word words n j) (D i)
    where
      step : ((j : ℕ) → IsWord (fill D n w j)) → (o : Option Operand) → IsWord (fill_by (λ j. fill D n w j) (w i) o)
      step ih none = words i
      step ih (some rhs) = value_word (λ j. fill D n w j) ih rhs
