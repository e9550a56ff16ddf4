-- Turns, one after the other. Assumes nothing.
use mir.Val.{bool_byte}
use Rattle.std.proofs.Common.{◌≡◌, ℕ, suc, ◌+◌, ◌≤◌, Bool, true, false, cond, List, get_or, ◌==◌, sym, refl, ap, ◌∙◌, add-one, arith}
use Rattle.replaying.specs.Places.{mixed}
use Rattle.replay_decision.specs.Replay.{turns, marked_by, flags_of, same_of, equal_places, count_of, digest_of}

pub turns-none : (A : Type 0) (f : ℕ → A → A) (s : A) → s ≡ turns A f 0 s
unfolding turns
turns-none A f s = refl

turns-suc : (A : Type 0) (f : ℕ → A → A) (i : ℕ) (s : A) → turns A f (suc i) s ≡ f i (turns A f i s)
unfolding turns
turns-suc A f i s = refl

pub turns_next : (A : Type 0) (f : ℕ → A → A) (i : ℕ) (s x y : A) → x ≡ turns A f i s → y ≡ f i x → y ≡ turns A f (i + 1) s
turns_next A f i s x y p q = q ∙ ap (f i) p ∙ sym (turns-suc A f i s) ∙ ap (λ (n : ℕ). turns A f n s) (sym (add-one i))

pub marks_next : (decisions dsts l : List ℕ) (i d e : ℕ) (x y : List ℕ) → d ≡ get_or decisions i 0 → e ≡ get_or dsts i 0 → x ≡ flags_of decisions dsts i l → y ≡ marked_by d e x → y ≡ flags_of decisions dsts (i + 1) l
marks_next decisions dsts l i d e x y p q h r =
    turns_next (List ℕ) (λ i x. marked_by (get_or decisions i 0) (get_or dsts i 0) x) i l x y h (rw (← p, ← q) r)

-- a test as a number
same_is : (b : Bool) → bool_byte b ≡ cond b 1 0
same_is true = refl
same_is false = refl

pub same_low : (b : Bool) → bool_byte b ≤ 1
same_low true = omega arith
same_low false = omega arith

pub places_next : (a b : List ℕ) (i v w x : ℕ) → v ≡ get_or a i 0 → w ≡ get_or b i 0 → x ≡ equal_places a b i → x + bool_byte (v == w) ≡ equal_places a b (i + 1)
places_next a b i v w x p q h =
    turns_next ℕ (λ i c. c + same_of (get_or a i 0) (get_or b i 0)) i 0 x (x + bool_byte (v == w)) h (rw (← p, ← q) (ap (λ (k : ℕ). x + k) (same_is (v == w))))

pub count_next : (l : List ℕ) (v i w x : ℕ) → w ≡ get_or l i 0 → x ≡ count_of l v i → x + bool_byte (w == v) ≡ count_of l v (i + 1)
count_next l v i w x p h =
    turns_next ℕ (λ i c. c + same_of (get_or l i 0) v) i 0 x (x + bool_byte (w == v)) h (rw (← p) (ap (λ (k : ℕ). x + k) (same_is (w == v))))

pub digest_next : (l : List ℕ) (start i w x y : ℕ) → w ≡ get_or l i 0 → x ≡ digest_of l i start → y ≡ mixed x w → y ≡ digest_of l (i + 1) start
digest_next l start i w x y p h r = turns_next ℕ (λ i d. mixed d (get_or l i 0)) i start x y h (rw (← p) r)
