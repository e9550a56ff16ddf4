-- Fusing has one answer, and its counts add up; so has rebuilding. Assumes nothing.
use mathlib.Core.Path.{◌≡◌, refl, sym, ap, ◌∙◌}
use Prim.Native.Nat.{ℕ, ◌+◌}
use mathlib.Core.Bool.{Bool}
use mathlib.Core.List.{List}
use lib.ListN.{length}
use Rattle.word.specs.Answers as T
use Rattle.word.specs.Answers.{Told}
use Rattle.lower.specs.declared.Sizes.{Sizes}
use Rattle.lower.specs.Model.{System}
use Rattle.lower.specs.Accepted.{NoCircle, Accepted}
use Rattle.lower.specs.Stores.{Stores, system_of}
use Rattle.commit_set.specs.declared.Decision.{Decision}
use Rattle.commit_set.specs.Decision.{Solves}
use Rattle.commit_set.specs.Answer.{decision_fault}
use Rattle.commit_set.proofs.Theorem.{decided_accepted}
use Rattle.patch.specs.declared.Cursor.{Cursor}
use Rattle.patch.specs.Patch.{commit_set}
use Rattle.patch.proofs.Parts.{clash}
use Rattle.patch.proofs.Unique.{set_only}
use Rattle.patch.proofs.Counting.{counted}
use Rattle.reach.specs.Reach.{ReachIn}
use Rattle.reach.specs.Steps.{Filled}
use Rattle.reach.proofs.Once.{reach_once}
use Rattle.std.specs.Prelude.{Ok}
use Rattle.fusion.specs.Left.{Lent, input, fused, has_room, counts_of, leaves}
use Rattle.fusion.specs.Answer.{told_fused, Fuses, refused, circular, short, patches}
use Rattle.fusion.specs.Steps.{Ready, Ordered, chosen, Rebuilt}
use Rattle.fusion.proofs.Making.{memory, accepted}

-- the new terms and the numbers of their operands, whether all fits or not
pub rebuilt_once : (p : System) (c : ℕ → Bool) (out list o₁ o₂ l₁ l₂ : List ℕ) (b₁ b₂ : Cursor) → Rebuilt p c out list o₁ l₁ b₁ → Rebuilt p c out list o₂ l₂ b₂ → (b₁ ≡ b₂) × (o₁ ≡ o₂) × (l₁ ≡ l₂)
rebuilt_once p c out list o₁ o₂ l₁ l₂ b₁ b₂ x y = (x.cursor ∙ sym y.cursor, x.terms ∙ sym y.terms, x.listed ∙ sym y.listed)

-- the masks of the definitions that are met
pub rebuilt_reach_once : (z : Sizes) (s : Stores) (decisions table order : List ℕ) → Ready z s decisions → Ordered z s table order → (before a b : List ℕ)
    → ReachIn (system_of z s) (chosen z s decisions) z.linears s.dsts a → Filled z.linears before a
    → ReachIn (system_of z s) (chosen z s decisions) z.linears s.dsts b → Filled z.linears before b → a ≡ b
rebuilt_reach_once z s decisions table order r o before a b =
    reach_once z s (memory z s decisions r) (accepted z s decisions r).once (chosen z s decisions) order o.named before a b

-- "Definitions before = gone + stranded + committed"
pub fused_counts : (z : Sizes) (l : Lent) (c : ℕ → Bool) → Accepted (fused z l)
    → length (fused z l).linears ≡ (counts_of (fused z l) c).gone + (counts_of (fused z l) c).stranded + (counts_of (fused z l) c).committed
unfolding counts_of
fused_counts z l c a = (counted (fused z l) c a.once a.named.destinations_named).linears_count

module _ (slots : ℕ) (z : Sizes) (l : Lent) where
  abbrev fault : ℕ
  fault = decision_fault slots z (input l)

  -- the set of committed wires is one
  module _ (f : fault ≡ 0) (n : NoCircle (fused z l)) (st sv : ℕ → Decision) (a : Solves slots (fused z l) st) (b : Solves slots (fused z l) sv) where
    one_set : commit_set (fused z l) st ≡ commit_set (fused z l) sv
    one_set = set_only slots (fused z l) (decided_accepted slots z (input l) f n) st sv a b

    one_room : has_room (fused z l) (commit_set (fused z l) st) l ≡ has_room (fused z l) (commit_set (fused z l) sv) l
    one_room = ap (λ (c : ℕ → Bool). has_room (fused z l) c l) one_set

  -- THE THEOREM. No second answer, and nothing else left in the stores.
  pub fuses_once : (r₁ r₂ : Told) (l₁ l₂ : Lent) → Fuses slots z l l₁ r₁ → Fuses slots z l l₂ r₂ → (r₁ ≡ r₂) × (l₁ ≡ l₂)
  fuses_once r₁ r₂ l₁ l₂ (refused e h k) (refused e' h' k') = (ap T.refused (e ∙ sym e'), k ∙ sym k')
  fuses_once r₁ r₂ l₁ l₂ (refused e h k) (circular f w q k') = absurd (h (e ∙ f))
  fuses_once r₁ r₂ l₁ l₂ (refused e h k) (short f n st s g k') = absurd (h (e ∙ f))
  fuses_once r₁ r₂ l₁ l₂ (refused e h k) (patches f n st y) = absurd (h (e ∙ f))
  fuses_once r₁ r₂ l₁ l₂ (circular f w q k) (refused e h k') = absurd (h (e ∙ f))
  fuses_once r₁ r₂ l₁ l₂ (circular f w q k) (circular f' w' q' k') = (refl, k ∙ sym k')
  fuses_once r₁ r₂ l₁ l₂ (circular f w q k) (short f' n st s g k') = absurd (n w q)
  fuses_once r₁ r₂ l₁ l₂ (circular f w q k) (patches f' n st y) = absurd (n w q)
  fuses_once r₁ r₂ l₁ l₂ (short f n st s g k) (refused e h k') = absurd (h (e ∙ f))
  fuses_once r₁ r₂ l₁ l₂ (short f n st s g k) (circular f' w q k') = absurd (n w q)
  fuses_once r₁ r₂ l₁ l₂ (short f n st s g k) (short f' n' st' s' g' k') = (refl, k ∙ sym k')
  fuses_once r₁ r₂ l₁ l₂ (short f n st s g k) (patches f' n' st' y) = absurd (clash (one_room f n st st' s y.solves ∙ y.fits) g)
  fuses_once r₁ r₂ l₁ l₂ (patches f n st y) (refused e h k') = absurd (h (e ∙ f))
  fuses_once r₁ r₂ l₁ l₂ (patches f n st y) (circular f' w q k') = absurd (n w q)
  fuses_once r₁ r₂ l₁ l₂ (patches f n st y) (short f' n' st' s g k') = absurd (clash (one_room f n st' st s y.solves ∙ y.fits) g)
  fuses_once r₁ r₂ l₁ l₂ (patches f n st y) (patches f' n' st' y') =
      let same = one_set f n st st' y.solves y'.solves in (
        ap (λ (c : ℕ → Bool). told_fused (Ok (counts_of (fused z l) c))) same,
        y.left ∙ ap (leaves z l) same ∙ sym y'.left,
      )
