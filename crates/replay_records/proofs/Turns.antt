-- Turns, one after the other. Assumes nothing.
use Rattle.std.proofs.Common.{◌≡◌, ℕ, suc, ◌+◌, List, get_or, set, sym, refl, ap, ◌∙◌, add-one}
use Rattle.records.specs.declared.Definition.{Definition}
use Rattle.replay_records.specs.Places.{turns}
use Rattle.replay_records.specs.Words.{word_at, made_words, holds_of, holding_of}

pub turns-none : (A : Type 0) (f : ℕ → A → A) (s : A) → s ≡ turns A f 0 s
unfolding turns
turns-none A f s = refl

turns-suc : (A : Type 0) (f : ℕ → A → A) (i : ℕ) (s : A) → turns A f (suc i) s ≡ f i (turns A f i s)
unfolding turns
turns-suc A f i s = refl

turns_next : (A : Type 0) (f : ℕ → A → A) (i : ℕ) (s x y : A) → x ≡ turns A f i s → y ≡ f i x → y ≡ turns A f (i + 1) s
turns_next A f i s x y p q = q ∙ ap (f i) p ∙ sym (turns-suc A f i s) ∙ ap (λ (n : ℕ). turns A f n s) (sym (add-one i))

pub make_next : (i w : ℕ) (words l : List ℕ) → w ≡ word_at i → l ≡ made_words i words → set l i w ≡ made_words (i + 1) words
make_next i w words l p h = turns_next (List ℕ) (λ i l. set l i (word_at i)) i words l (set l i w) h (ap (λ (k : ℕ). set l i k) p)

pub holding_next : (ds : List Definition) (values : List ℕ) (at : ℕ) (flags words : List ℕ) (i : ℕ) (d : Definition) (v x s : ℕ) → d ≡ get_or ds i (record { rhs = 0; dst = 0 }) → v ≡ get_or values (at + i) 0 → x ≡ holding_of ds i values at flags words → s ≡ holds_of d v flags words → x + s ≡ holding_of ds (i + 1) values at flags words
holding_next ds values at flags words i d v x s p q h r =
    turns_next ℕ (λ i c. c + holds_of (get_or ds i (record { rhs = 0; dst = 0 })) (get_or values (at + i) 0) flags words) i 0 x (x + s) h (ap (λ (k : ℕ). x + k) (rw (← p, ← q) r))
