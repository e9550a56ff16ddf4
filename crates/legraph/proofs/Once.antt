-- A walk told by an equation for every depth that is enough is one: as deep as there are definitions not met is enough. Assumes nothing.
use mathlib.Core.Path.{◌≡◌, sym, ap, ◌∙◌}
use Prim.Native.Nat.{ℕ, ◌≤◌}
use native.Mathlib.Omega.{arith}
use mathlib.Core.List.{List}
use Rattle.legraph.specs.declared.Walk.{Walk}
use Rattle.legraph.specs.Walked.{Walked, walked, unmarked}

-- w is what `visit`, or `enter` after it, gives by the depth
pub walk_once : (marks : List ℕ) (w : ℕ → Walked) (m₁ m₂ o₁ o₂ : List ℕ) (c₁ c₂ : Walk) → ((f : ℕ) → unmarked marks ≤ f → walked m₁ o₁ c₁ ≡ w f) → ((f : ℕ) → unmarked marks ≤ f → walked m₂ o₂ c₂ ≡ w f)
    → (m₁ ≡ m₂) × (o₁ ≡ o₂) × (c₁ ≡ c₂)
walk_once marks w m₁ m₂ o₁ o₂ c₁ c₂ a b =
    let e : walked m₁ o₁ c₁ ≡ walked m₂ o₂ c₂ = a (unmarked marks) (omega arith) ∙ sym (b (unmarked marks) (omega arith)) in
    (ap (λ (x : Walked). x.marks) e, ap (λ (x : Walked). x.order) e, ap {B = Walk} (λ (x : Walked). record { left = x.left; circle = x.circle }) e)
