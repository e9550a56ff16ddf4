-- Deciding has one answer: the refusal, or the decisions of the only solution. With one slot or two they let patching keep to its slots.
-- Assumes nothing.
use mathlib.Core.Path.{◌≡◌, refl, sym, ap, ◌∙◌}
use Prim.Native.Nat.{ℕ, ◌+◌, ◌-◌, ◌≤◌, ◌<◌}
use mathlib.Core.List.{List}
use mathlib.Core.Bool.{Bool, true, false}
use native.Mathlib.Omega.{arith}
use lib.ListN.{length, get_or, drop}
use lib.Seq.{ext_get_or, get_or-drop}
use lib.Dec.{ltb}
use borrow.Author.Tests.{ltb-true, ltb-false}
use Rattle.lower.specs.declared.Sizes.{Sizes}
use Rattle.lower.specs.Accepted.{NoCircle, Accepted}
use Rattle.lower.specs.Stores.{Stores, system_of}
use Rattle.lower.specs.Faults.{fault_of}
use Rattle.lower.proofs.Explains.{accepted}
use Rattle.commit_set.specs.declared.Decision.TheVariants.{Commit}
use Rattle.commit_set.specs.Orders.{InOrder}
use Rattle.commit_set.specs.Numbers.{decision_number, state_at}
use Rattle.commit_set.specs.Answer.{decision_fault, Solution, Decides, refused, circular, short, decided}
use Rattle.commit_set.proofs.Orders.{order_only}
use Rattle.commit_set.proofs.Ordering.{order}
use Rattle.commit_set.proofs.Answers.{memory_none, definition_none}

module _ (slots : ℕ) (z : Sizes) (s : Stores) where
  -- what is decided is accepted
  pub decided_accepted : decision_fault slots z s ≡ 0 → NoCircle (system_of z s) → Accepted (system_of z s)
  unfolding fault_of
  decided_accepted f n = accepted z s (rw (memory_none slots z s f, definition_none slots z s f)) n

  -- where there is an order, no second store after a solution
  module _ (ds : List ℕ) (o : InOrder (system_of z s) (λ d. false) ds) (l l₁ l₂ : List ℕ) (p : Solution slots (system_of z s) l l₁) (q : Solution slots (system_of z s) l l₂) where
    same_first : (i : ℕ) → i < length (system_of z s).linears → get_or l₁ i 0 ≡ get_or l₂ i 0
    same_first i h =
        p.exact i h
        ∙ ap decision_number (sym (order_only slots (system_of z s) ds (λ d. Commit) (state_at l₁) o p.solves i h) ∙ order_only slots (system_of z s) ds (λ d. Commit) (state_at l₂) o q.solves i h)
        ∙ sym (q.exact i h)

    same_rest : (i : ℕ) → length (system_of z s).linears ≤ i → get_or l₁ i 0 ≡ get_or l₂ i 0
    same_rest i h =
        let m : ℕ = length (system_of z s).linears in
        let e : m + (i - m) ≡ i = omega arith in
        let at : (x y : List ℕ) → drop m x ≡ drop m y → get_or x i 0 ≡ get_or y i 0 = λ x y r.
        ap (λ (j : ℕ). get_or x j 0) (sym e) ∙ sym (get_or-drop m x (i - m) 0) ∙ ap (λ (t : List ℕ). get_or t (i - m) 0) r ∙ get_or-drop m y (i - m) 0 ∙ ap (λ (j : ℕ). get_or y j 0) e in
        at l₁ l₂ (p.kept ∙ sym q.kept)

    pub solution_once : l₁ ≡ l₂
    solution_once = ext_get_or 0 l₁ l₂ (p.long ∙ sym q.long) (λ i h. go i (ltb i (length (system_of z s).linears)) refl)
      where
        go : (i : ℕ) (b : Bool) → ltb i (length (system_of z s).linears) ≡ b → get_or l₁ i 0 ≡ get_or l₂ i 0
        go i true e = same_first i (ltb-true i (length (system_of z s).linears) e)
        go i false e = same_rest i (ltb-false i (length (system_of z s).linears) e)

  -- THE THEOREM. No second answer, and no other store after it.
  module _ (l : List ℕ) where
    pub decides_once : (r r' : ℕ) (l₁ l₂ : List ℕ) → Decides slots z s l l₁ r → Decides slots z s l l₂ r' → (r ≡ r') × (l₁ ≡ l₂)
    decides_once r r' l₁ l₂ (refused e h k) (refused e' h' k') = (e ∙ sym e', k ∙ sym k')
    decides_once r r' l₁ l₂ (refused e h k) (circular f w c k') = absurd (h (e ∙ f))
    decides_once r r' l₁ l₂ (refused e h k) (short f n m k') = absurd (h (e ∙ f))
    decides_once r r' l₁ l₂ (refused e h k) (decided f n m y) = absurd (h (e ∙ f))
    decides_once r r' l₁ l₂ (circular f w c k) (refused e h k') = absurd (h (e ∙ f))
    decides_once r r' l₁ l₂ (circular f w c k) (circular f' w' c' k') = (refl, k ∙ sym k')
    decides_once r r' l₁ l₂ (circular f w c k) (short f' n m k') = absurd (n w c)
    decides_once r r' l₁ l₂ (circular f w c k) (decided f' n m y) = absurd (n w c)
    decides_once r r' l₁ l₂ (short f n m k) (refused e h k') = absurd (h (e ∙ f))
    decides_once r r' l₁ l₂ (short f n m k) (circular f' w c k') = absurd (n w c)
    decides_once r r' l₁ l₂ (short f n m k) (short f' n' m' k') = (refl, k ∙ sym k')
    decides_once r r' l₁ l₂ (short f n m k) (decided f' n' m' y) = absurd (omega arith)
    decides_once r r' l₁ l₂ (decided f n m y) (refused e h k') = absurd (h (e ∙ f))
    decides_once r r' l₁ l₂ (decided f n m y) (circular f' w c k') = absurd (n w c)
    decides_once r r' l₁ l₂ (decided f n m y) (short f' n' m' k') = absurd (omega arith)
    decides_once r r' l₁ l₂ (decided f n m y) (decided f' n' m' y') = (refl, let d = order slots (system_of z s) (decided_accepted f n) in solution_once d.0 d.1 l l₁ l₂ y y')
