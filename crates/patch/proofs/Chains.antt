-- Where no definition reaches itself, no chain of definitions is longer than there are definitions. Assumes nothing.
--
-- The definitions on the way to a wire are marked; each step marks one more, so the number of those not marked falls.
use mathlib.Core.Path.{◌≡◌, refl, ap, ◌∙◌, sym}
use mathlib.Core.Bool.{Bool, true, false, cond, ◌||◌}
use mathlib.Core.List.{List, [], ◌∷◌, Memᴰ}
use mathlib.Core.Option.{Option, none, some}
use Prim.Native.Nat.{ℕ, zero, suc, ◌≤◌, ◌<◌}
use native.Mathlib.Omega.{arith}
use lib.Dec.{eqb}
use lib.ListN.{length}
use borrow.Author.Tests.{eqb-true}
use Rattle.operand.specs.Numbers.{Term, Operand}
use Rattle.lower.specs.Model.{Definition, System, definition_of}
use Rattle.lower.specs.Accepted.{Reaches, names, through, NoCircle}
use Rattle.patch.specs.Expansion.{Within}
use Rattle.patch.specs.Patch.{inlined, depth}
use Rattle.patch.proofs.Parts.{Which, is_true, is_false, which, Found, absent, present, found, all_members}

mark : ℕ → (ℕ → Bool) → ℕ → Bool
mark d m i = eqb d i || m i

tick : Bool → ℕ → ℕ
tick true n = n
tick false n = suc n

tick_le : (a b : Bool) (p q : ℕ) → p ≤ q → tick (a || b) p ≤ tick b q
unfolding tick
tick_le true true p q h = h
tick_le true false p q h = omega arith
tick_le false true p q h = h
tick_le false false p q h = omega arith

tick_lt : (b : Bool) (p q : ℕ) → p < q → tick b p < tick b q
unfolding tick
tick_lt true p q h = h
tick_lt false p q h = omega arith

tick_up : (b : Bool) (p q : ℕ) → p ≤ q → tick b p ≤ suc q
unfolding tick
tick_up true p q h = omega arith
tick_up false p q h = omega arith

-- how many definitions have a destination that is not marked
unmarked : (ℕ → Bool) → List Definition → ℕ
unmarked m [] = zero
unmarked m (d ∷ ds) = tick (m d.dst) (unmarked m ds)

unmarked_all : (m : ℕ → Bool) (ds : List Definition) → unmarked m ds ≤ length ds
unfolding unmarked
unmarked_all m [] = omega arith
unmarked_all m (d ∷ ds) = tick_up (m d.dst) _ _ (unmarked_all m ds)

unmarked_le : (d : ℕ) (m : ℕ → Bool) (ds : List Definition) → unmarked (mark d m) ds ≤ unmarked m ds
unfolding unmarked mark
unmarked_le d m [] = omega arith
unmarked_le d m (x ∷ xs) = tick_le (eqb d x.dst) (m x.dst) _ _ (unmarked_le d m xs)

falls : (d : ℕ) (m : ℕ → Bool) (ds : List Definition) (rhs : Operand) → definition_of ds d ≡ some rhs → m d ≡ false → unmarked (mark d m) ds < unmarked m ds
unfolding unmarked mark tick
falls d m [] rhs e h = let z : ◌≡◌ {A = ℕ} 0 1 = cc in omega arith
falls d m (x ∷ xs) rhs e h = step (λ k. falls d m xs rhs k h) (eqb d x.dst) refl e
  where
    step : (definition_of xs d ≡ some rhs → unmarked (mark d m) xs < unmarked m xs)
        → (b : Bool) → eqb d x.dst ≡ b → cond b (some x.rhs) (definition_of xs d) ≡ some rhs
        → tick (b || m x.dst) (unmarked (mark d m) xs) < tick (m x.dst) (unmarked m xs)
    step ih true q k = let r : m x.dst ≡ false = ap m (sym (eqb-true d x.dst q)) ∙ h in rw r (omega (arith, unmarked_le d m xs))
    step ih false q k = tick_lt (m x.dst) _ _ (ih k)

module _ (p : System) (no_circle : NoCircle p)
    (D : ℕ → Option Operand) (sub : (i : ℕ) (rhs : Operand) → D i ≡ some rhs → definition_of p.linears i ≡ some rhs) where
  fresh : (i : ℕ) (m : ℕ → Bool) → ((j : ℕ) → m j ≡ true → Reaches p j i) → m i ≡ false
  fresh i m way = step (m i) refl
    where
      step : (b : Bool) → m i ≡ b → b ≡ false
      step true e = absurd (no_circle i (way i e))
      step false e = refl

  bounded : (n i : ℕ) (m : ℕ → Bool) → ((j : ℕ) → m j ≡ true → Reaches p j i) → unmarked m p.linears ≤ n → Within D n i
  unfolding mark
  bounded zero i m way h = step (found (D i))
    where
      step : Found (D i) → D i ≡ none
      step (absent e) = e
      step (present rhs e) = let k = falls i m p.linears rhs (sub i rhs e) (fresh i m way) in absurd (omega arith)
  bounded (suc n) i m way h =
      λ rhs e.
      all_members rhs λ u k.
      bounded n u.wire (mark i m) (λ j t. next rhs e u k j (which (eqb i j)) t)
      (let l = falls i m p.linears rhs (sub i rhs e) (fresh i m way) in omega arith)
    where
      next : (rhs : Operand) → D i ≡ some rhs → (u : Term) → Memᴰ u rhs → (j : ℕ) → Which (eqb i j) → mark i m j ≡ true → Reaches p j u.wire
      next rhs e u k j (is_true q) t = rw (sym (eqb-true i j q)) (names rhs u (sub i rhs e) k)
      next rhs e u k j (is_false q) t = through (way j (rw q at t)) (names rhs u (sub i rhs e) k)

  pub within : (i : ℕ) → Within D (length p.linears) i
  within i = bounded (length p.linears) i (λ j. false) (λ j t. absurd (never t)) (unmarked_all (λ j. false) p.linears)
    where
      never : false ≡ true → ⊥
      never t = let z : ◌≡◌ {A = ℕ} 0 1 = cc in omega arith

module _ (p : System) (c : ℕ → Bool) where
  pub inlined_defined : (i : ℕ) (rhs : Operand) → inlined p c i ≡ some rhs → definition_of p.linears i ≡ some rhs
  unfolding inlined
  inlined_defined i rhs e = step (c i) e
    where
      step : (b : Bool) → cond b none (definition_of p.linears i) ≡ some rhs → definition_of p.linears i ≡ some rhs
      step true k = cc
      step false k = k

  -- no chain of definitions is longer than there are definitions
  pub deep : NoCircle p → (i : ℕ) → Within (inlined p c) (depth p c) i
  unfolding depth
  deep clear = within p clear (inlined p c) inlined_defined
