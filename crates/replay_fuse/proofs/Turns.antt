-- Turns, one after the other. Assumes nothing.
use Rattle.std.proofs.Common.{◌≡◌, ℕ, suc, ◌+◌, List, get_or, sym, refl, ap, ◌∙◌, add-one}
use Rattle.replay_fuse.specs.Places.{turns, same_of, named_from}

pub turns-none : (A : Type 0) (f : ℕ → A → A) (s : A) → s ≡ turns A f 0 s
unfolding turns
turns-none A f s = refl

turns-suc : (A : Type 0) (f : ℕ → A → A) (i : ℕ) (s : A) → turns A f (suc i) s ≡ f i (turns A f i s)
unfolding turns
turns-suc A f i s = refl

turns_next : (A : Type 0) (f : ℕ → A → A) (i : ℕ) (s x y : A) → x ≡ turns A f i s → y ≡ f i x → y ≡ turns A f (i + 1) s
turns_next A f i s x y p q = q ∙ ap (f i) p ∙ sym (turns-suc A f i s) ∙ ap (λ (n : ℕ). turns A f n s) (sym (add-one i))

pub named_next : (flags dsts : List ℕ) (from i d w x s : ℕ) → d ≡ get_or dsts (from + i) 0 → w ≡ get_or flags d 0 → x ≡ named_from flags dsts from i → s ≡ same_of w 1 → x + s ≡ named_from flags dsts from (i + 1)
named_next flags dsts from i d w x s p q h r =
    turns_next ℕ (λ i c. c + same_of (get_or flags (get_or dsts (from + i) 0) 0) 1) i 0 x (x + s) h (ap (λ (k : ℕ). x + k) (rw (← p, ← q) r))
