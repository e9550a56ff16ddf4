-- Runs of stores, one after the other, and what is read past them. Assumes nothing.
use mathlib.Core.Path.{◌≡◌, refl, sym, ap, ◌∙◌}
use Prim.Native.Nat.{ℕ, suc, ◌+◌, ◌≤◌, ◌<◌}
use mathlib.Core.Bool.{Bool, true, false, not}
use mathlib.Core.List.{List, [], ◌∷◌, ◌++◌, map}
use native.Mathlib.Omega.{arith}
use native.Mathlib.Numerals.{add-one}
use lib.ListN.{length, get_or, set, take, drop}
use lib.Seq.{sets, sets-eq, paste, take-suc, get_or-set_other, drop-set-lt, length-take-le}
use Rattle.operand.specs.Numbers.{operand_of}
use Rattle.patch.specs.Spelling.{row_names}
use Rattle.patch.proofs.Writing.{sets_both}
use Rattle.apply.specs.Applied.{untouched, only_if}

pub sets_next : (l : List ℕ) (n m : ℕ) (xs ys : List ℕ) → m ≡ n + length xs → sets (sets l n xs) m ys ≡ sets l n (xs ++ ys)
sets_next l n m xs ys e = ap (λ (i : ℕ). sets (sets l n xs) i ys) e ∙ sets_both l n xs ys

pub drop_past : (l : List ℕ) (n p : ℕ) (xs : List ℕ) → n + length xs ≤ p → drop p (sets l n xs) ≡ drop p l
drop_past l n p [] h = refl
drop_past l n p (x ∷ xs) h = drop_past (set l n x) (suc n) p xs (omega (arith, h)) ∙ drop-set-lt p l n x (omega (arith, h))

pub get_past : (l : List ℕ) (n p : ℕ) (xs : List ℕ) → n + length xs ≤ p → get_or (sets l n xs) p 0 ≡ get_or l p 0
get_past l n p [] h = refl
get_past l n p (x ∷ xs) h = get_past (set l n x) (suc n) p xs (omega (arith, h)) ∙ get_or-set_other l n p x 0 (λ e. omega (arith, h, e))

-- the first i of a list, and one more
pub copy_step : (f : List ℕ) (i : ℕ) → i < length f → (l : List ℕ) (at : ℕ) → set (sets l at (take i f)) (at + i) (get_or f i 0) ≡ sets l at (take (i + 1) f)
copy_step f i h l at =
    let e : take (i + 1) f ≡ take i f ++ (get_or f i 0 ∷ []) = rw (add-one, take-suc f i 0 h) in
    let n : length (take i f) ≡ i = length-take-le i f (omega (arith, h)) in
    sets_next l at (at + i) (take i f) (get_or f i 0 ∷ []) (omega (arith, n)) ∙ ap (sets l at) (sym e)

-- a part written over is a run of stores
pub paste_sets : (l : List ℕ) (at : ℕ) (s : List ℕ) (n : ℕ) → at + n ≤ length l → n ≤ length s → paste l at s n ≡ sets l at (take n s)
paste_sets l at s n h k =
    let e : length (take n s) ≡ n = length-take-le n s k in
    sym (sets-eq (take n s) l at (omega (arith, h, e)) ∙ ap (λ (m : ℕ). take at l ++ take n s ++ drop (at + m) l) e)

-- ---- what is kept of one row

pub kept_no : (b : Bool) (l : List ℕ) (to : ℕ) (row : List ℕ) → b ≡ false → (l ≡ sets l to (only_if b row)) × (to ≡ to + length (only_if b row))
kept_no b l to row e = rw e (refl, omega arith)

pub kept_yes : (b : Bool) (l l' : List ℕ) (to k : ℕ) (row : List ℕ) → b ≡ true → length row ≡ k → l' ≡ sets l to row
    → (l' ≡ sets l to (only_if b row)) × (to + k ≡ to + length (only_if b row))
kept_yes b l l' to k row e p q = rw e (q, omega (arith, p))

pub untouched-told : (old new table row part : List ℕ) (b : Bool) → part ≡ row → b ≡ row_names table (map (operand_of old new) part)
    → untouched old new table row ≡ not b
unfolding untouched
untouched-told old new table row part b p e = rw (← p, e)
