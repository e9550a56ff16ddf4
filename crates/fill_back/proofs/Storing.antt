-- The steps of the program that fills definition after definition. Assumes nothing.
use mathlib.Core.Path.{◌≡◌, refl, sym, ap, ◌∙◌, subst}
use Prim.Native.Nat.{ℕ}
use mathlib.Core.List.{List, [], ◌∷◌, ◌++◌, append_assoc, append-nil}
use lib.ListN.{length, get_or, set, drop}
use lib.Seq.{drop_at}
use borrow.Author.Tests.{eq-eqb, ne_eqb}
use Rattle.lower.specs.Lists.{All, more}
use Rattle.lower.specs.Values.{value, word_of}
use Rattle.lower.proofs.Laws.{all_right}
use Rattle.fill_back.specs.Steps.{Held, rhs_at, dst_at, fill_step, fill_from, Able}

-- ---- one definition

module _ (h : Held) (d : ℕ) (ws : List ℕ) where
  pub step_committed : (get_or h.flags (dst_at h d) 0 ≡ 0 → ⊥) → ws ≡ fill_step h d ws
  unfolding fill_step
  step_committed n = rw (ne_eqb (get_or h.flags (dst_at h d) 0) 0 n)

  pub step_open : (v : ℕ) → get_or h.flags (dst_at h d) 0 ≡ 0 → v ≡ value (word_of ws) (rhs_at h d) → set ws (dst_at h d) v ≡ fill_step h d ws
  unfolding fill_step
  step_open v e g = rw (eq-eqb (get_or h.flags (dst_at h d) 0) 0 e) (ap (set ws (dst_at h d)) g)

-- ---- all of them: rest is what the loop has left, from the front of the order on

drop-none : (l : List ℕ) → drop (length l) l ≡ []
drop-none [] = refl
drop-none (x ∷ xs) = drop-none xs

pub rest_begun : (h : Held) (ws order rest : List ℕ) → rest ≡ order → (order ≡ rest ++ drop (length rest) order) × (ws ≡ fill_from h (drop (length rest) order) ws)
unfolding fill_from
rest_begun h ws order rest e = rw (e, drop-none order) (sym (append-nil order), refl)

pub rest_done : (h : Held) (ws order rest a : List ℕ) → length rest ≡ 0 → a ≡ fill_from h (drop (length rest) order) ws → a ≡ fill_from h order ws
rest_done h ws order rest a e f = f ∙ ap (λ (n : ℕ). fill_from h (drop n order) ws) e

-- what stands behind it is filled
pub behind : (order rest rest' : List ℕ) (d : ℕ) → order ≡ rest ++ drop (length rest) order → rest ≡ rest' ++ (d ∷ []) → order ≡ rest' ++ (d ∷ drop (length rest) order)
behind order rest rest' d o e = o ∙ ap (λ (r : List ℕ). r ++ drop (length rest) order) e ∙ append_assoc rest' (d ∷ []) (drop (length rest) order)

module _ (h : Held) (ws : List ℕ) (order rest rest' : List ℕ) (d : ℕ) (o : order ≡ rest ++ drop (length rest) order) (e : rest ≡ rest' ++ (d ∷ [])) where
  one_less : drop (length rest') order ≡ d ∷ drop (length rest) order
  one_less = ap (drop (length rest')) (behind order rest rest' d o e) ∙ drop_at rest' (d ∷ drop (length rest) order) (length rest') refl

  pub rest_turn : order ≡ rest' ++ drop (length rest') order
  rest_turn = behind order rest rest' d o e ∙ ap (λ (r : List ℕ). rest' ++ r) (sym one_less)

  pub fill_turn : (a b : List ℕ) → a ≡ fill_from h (drop (length rest) order) ws → b ≡ fill_step h d a → b ≡ fill_from h (drop (length rest') order) ws
  unfolding fill_from
  fill_turn a b f g = g ∙ ap (fill_step h d) f ∙ sym (ap (λ (ds : List ℕ). fill_from h ds ws) one_less)

  -- a loop that stands at d can fill it
  pub able_turn : {n m : ℕ} → All (Able h m) order → n ≡ m → Able h n d
  able_turn {n} {m} a q =
      subst (λ (k : ℕ). Able h k d) (sym q) (head (all_right (Able h m) rest' (d ∷ drop (length rest) order) (subst (All (Able h m)) (behind order rest rest' d o e) a)))
    where
      head : {xs : List ℕ} → All (Able h m) (d ∷ xs) → Able h m d
      head (more x y) = x
