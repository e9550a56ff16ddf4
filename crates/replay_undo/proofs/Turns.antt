-- Turns, one after the other. Assumes nothing.
use Rattle.std.proofs.Common.{◌≡◌, ℕ, zero, suc, ◌+◌, ◌*◌, ◌%◌, ◌^◌, ◌≤◌, List, get_or, set, sym, refl, ap, ◌∙◌, add-one, mul-le-mul, arith}
use Rattle.replay_undo.specs.Places.{turns, same_of, same_places, mixed, digest_of, row_mixed, rows_mixed}
use Rattle.replay_undo.specs.Words.{random_of, word_at, made_words, disturbed, overwritten, laid_flags}
use Rattle.replay_undo.specs.Values.{holding_of}

pub turns-none : (A : Type 0) (f : ℕ → A → A) (s : A) → s ≡ turns A f 0 s
unfolding turns
turns-none A f s = refl

turns-suc : (A : Type 0) (f : ℕ → A → A) (i : ℕ) (s : A) → turns A f (suc i) s ≡ f i (turns A f i s)
unfolding turns
turns-suc A f i s = refl

turns_next : (A : Type 0) (f : ℕ → A → A) (i : ℕ) (s x y : A) → x ≡ turns A f i s → y ≡ f i x → y ≡ turns A f (i + 1) s
turns_next A f i s x y p q = q ∙ ap (f i) p ∙ sym (turns-suc A f i s) ∙ ap (λ (n : ℕ). turns A f n s) (sym (add-one i))

pub places_next : (a b : List ℕ) (from i v w x s : ℕ) → v ≡ get_or a (from + i) 0 → w ≡ get_or b (from + i) 0 → x ≡ same_places a b from i → s ≡ same_of v w → x + s ≡ same_places a b from (i + 1)
places_next a b from i v w x s p q h r =
    turns_next ℕ (λ i c. c + same_of (get_or a (from + i) 0) (get_or b (from + i) 0)) i 0 x (x + s) h (ap (λ (k : ℕ). x + k) (rw (← p, ← q) r))

pub holding_next : (dsts values : List ℕ) (at : ℕ) (words : List ℕ) (i v d w x s : ℕ) → v ≡ get_or values (at + i) 0 → d ≡ get_or dsts i 0 → w ≡ get_or words d 0 → x ≡ holding_of dsts values at i words → s ≡ same_of v w → x + s ≡ holding_of dsts values at (i + 1) words
holding_next dsts values at words i v d w x s p q e h r =
    turns_next ℕ (λ i c. c + same_of (get_or values (at + i) 0) (get_or words (get_or dsts i 0) 0)) i 0 x (x + s) h
    (ap (λ (k : ℕ). x + k) (rw (← p, ← q, ← e) r))

pub digest_next : (l : List ℕ) (start i w x y : ℕ) → w ≡ get_or l i 0 → x ≡ digest_of l i start → y ≡ mixed x w → y ≡ digest_of l (i + 1) start
digest_next l start i w x y p h r = turns_next ℕ (λ i d. mixed d (get_or l i 0)) i start x y h (rw (← p) r)

pub row_next : (l : List ℕ) (at start i w x y : ℕ) → w ≡ get_or l (at + i) 0 → x ≡ turns ℕ (λ i d. mixed d (get_or l (at + i) 0)) i start → y ≡ mixed x w → y ≡ turns ℕ (λ i d. mixed d (get_or l (at + i) 0)) (i + 1) start
row_next l at start i w x y p h r = turns_next ℕ (λ i d. mixed d (get_or l (at + i) 0)) i start x y h (rw (← p) r)

pub rows_next : (l : List ℕ) (at k start i w x y : ℕ) → w ≡ row_mixed l (at + i * k) k start → x ≡ rows_mixed l at i k start → y ≡ (x + w) % 2 ^ 64 → y ≡ rows_mixed l at (i + 1) k start
rows_next l at k start i w x y p h r =
    turns_next ℕ (λ i s. (s + row_mixed l (at + i * k) k start) % 2 ^ 64) i 0 x y h (rw (← p) r)

pub make_next : (kind seed i w : ℕ) (ws l : List ℕ) → w ≡ word_at kind seed i → l ≡ made_words kind seed i ws → set l i w ≡ made_words kind seed (i + 1) ws
make_next kind seed i w ws l p h =
    turns_next (List ℕ) (λ i l. set l i (word_at kind seed i)) i ws l (set l i w) h (ap (λ (x : ℕ). set l i x) p)

pub overwrite_next : (dsts flags : List ℕ) (i d b : ℕ) (ws l l' : List ℕ) → d ≡ get_or dsts i 0 → b ≡ get_or flags d 0 → l ≡ overwritten dsts flags i ws → l' ≡ disturbed d b l → l' ≡ overwritten dsts flags (i + 1) ws
overwrite_next dsts flags i d b ws l l' p q h r =
    turns_next (List ℕ) (λ i l. disturbed (get_or dsts i 0) (get_or flags (get_or dsts i 0) 0) l) i ws l l' h (rw (← p, ← q) r)

pub lay_next : (dsts flags : List ℕ) (i d b : ℕ) (ws l l' : List ℕ) → d ≡ get_or dsts i 0 → b ≡ get_or flags d 0 → l ≡ laid_flags dsts flags i ws → l' ≡ set l d b → l' ≡ laid_flags dsts flags (i + 1) ws
lay_next dsts flags i d b ws l l' p q h r =
    turns_next (List ℕ) (λ i l. set l (get_or dsts i 0) (get_or flags (get_or dsts i 0) 0)) i ws l l' h (rw (← p, ← q) r)

pub other_word : (kind seed i : ℕ) → 2 ≤ kind → random_of (mixed seed kind) i ≡ word_at kind seed i
other_word zero seed i h = absurd (omega arith)
other_word (suc zero) seed i h = absurd (omega arith)
other_word (suc (suc kind)) seed i h = refl

-- a row begins no more than six numbers a row behind the first
pub rows_small : (i k : ℕ) → i ≤ 1024 → k ≤ 6 → i * k ≤ 6144
rows_small i k p q = mul-le-mul p q
