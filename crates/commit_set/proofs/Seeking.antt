-- The search over uses and terms, one step at a time: what it is to find is said of the uses and the terms that are left.
-- Assumes nothing.
use mathlib.Core.Path.{◌≡◌, refl, sym, ap, ◌∙◌}
use Prim.Native.Nat.{ℕ, ◌+◌, ◌*◌, ◌≤◌, ◌<◌, pred}
use mathlib.Core.Bool.{Bool, true, false, ◌&&◌, ◌||◌}
use mathlib.Core.List.{List, [], ◌∷◌, map}
use lib.ListN.{length, get_or, drop, drop_of_length-le, length-map, get_or-map}
use lib.Dec.{ltb}
use borrow.Author.Tests.{lt-ltb, le-ltb}
use Rattle.shift.specs.declared.Shift.{Shift}
use Rattle.shift.specs.Shifts.{shift_at}
use Rattle.operand.specs.Numbers.{Term, term_of}
use Rattle.lower.proofs.Firsts.{drop_step}
use Rattle.lower.specs.Lists.{some_of}
use Rattle.commit_set.specs.declared.CommitSetCx.{CommitSetCx}
use Rattle.commit_set.specs.Runs.{plus}
use Rattle.commit_set.specs.Decision.{MAX_TERM_GROWTH, shifts_of, term_over, some_over, too_deep, commits}

-- one use and all terms
abbrev pub terms_over : ℕ → CommitSetCx → List Shift → Bool
terms_over n c ss = some_of (term_over n c) ss

or_end : (a : Bool) → (a || false) ≡ a
or_end true = refl
or_end false = refl

-- the use c is begun, of the uses that are left
module _ {cs rest : List CommitSetCx} {c : CommitSetCx} (e : cs ≡ c ∷ rest) (ss : List Shift) where
  pub enter : (n : ℕ) (x : Bool) → x ≡ some_over n cs ss → x ≡ (terms_over n c ss || some_over n rest ss)
  enter n x h = rw h (rw e)

  pub enter_many : (m x : Bool) → (m || some_over 1 cs ss) ≡ x → (m || (terms_over 1 c ss || some_over 1 rest ss)) ≡ x
  enter_many m x h = ap (λ (l : List CommitSetCx). m || some_over 1 l ss) (sym e) ∙ h

pub shifts_length : (ts : List ℕ) → length (shifts_of (map term_of ts)) ≡ length ts
shifts_length ts = length-map (map term_of ts) (λ (t : Term). shift_at t.inner) ∙ length-map ts term_of

-- the term at j is passed; r is how many runs its sum with the use has
module _ (c : CommitSetCx) (ss : List Shift) (j : ℕ) (s : Shift) (e : drop j ss ≡ s ∷ drop (j + 1) ss) {r : ℕ} (p : r ≡ (plus c.shifts s).len) where
  here : (n : ℕ) → terms_over n c (drop j ss) ≡ (ltb n r || terms_over n c (drop (j + 1) ss))
  here n = ap (terms_over n c) e ∙ ap (λ (q : ℕ). ltb n q || terms_over n c (drop (j + 1) ss)) (sym p)

  pub pass : (n : ℕ) (x y : Bool) → r ≤ n → x ≡ (terms_over n c (drop j ss) || y) → x ≡ (terms_over n c (drop (j + 1) ss) || y)
  pass n x y h k =
      let z : terms_over n c (drop j ss) ≡ terms_over n c (drop (j + 1) ss) = here n ∙ rw (le-ltb n r h) in
      k ∙ ap (λ (b : Bool). b || y) z

  pub hit : (n : ℕ) (x y : Bool) → n < r → x ≡ (terms_over n c (drop j ss) || y) → x ≡ true
  hit n x y h k =
      let z : terms_over n c (drop j ss) ≡ true = here n ∙ rw (lt-ltb n r h) in
      k ∙ ap (λ (b : Bool). b || y) z

-- the terms as numbers
pub shift_at_lem : (ts : List ℕ) (j : ℕ) → j < length ts
    → drop j (shifts_of (map term_of ts)) ≡ shift_at (term_of (get_or ts j 0)).inner ∷ drop (j + 1) (shifts_of (map term_of ts))
shift_at_lem ts j h =
    let ss = shifts_of (map term_of ts) in
    let l : j < length ss = rw (shifts_length ts) h in
    drop_step ss j (shift_at (term_of 0).inner) l ∙ ap (λ (s : Shift). s ∷ drop (j + 1) ss) (get_or-map (λ (t : Term). shift_at t.inner) (map term_of ts) j (term_of 0) ∙ ap (λ (t : Term). shift_at t.inner) (get_or-map term_of ts j 0))

-- the use is done
module _ (c : CommitSetCx) (ss : List Shift) (j : ℕ) (l : length ss ≤ j) where
  none_left : (n : ℕ) → terms_over n c (drop j ss) ≡ false
  none_left n = rw (drop_of_length-le ss l)

  pub leave : (n : ℕ) (x y : Bool) → x ≡ (terms_over n c (drop j ss) || y) → x ≡ y
  leave n x y k = k ∙ ap (λ (b : Bool). b || y) (none_left n)

  pub leave_many : (m x y : Bool) → (m || (terms_over 1 c (drop j ss) || y)) ≡ x → (m || y) ≡ x
  leave_many m x y k = ap (λ (b : Bool). m || (b || y)) (sym (none_left 1)) ∙ k

-- all uses are done
module _ {cs : List CommitSetCx} (e : cs ≡ []) (ss : List Shift) where
  pub none_over : (n : ℕ) (o x : Bool) → o ≡ false → x ≡ some_over n cs ss → o ≡ x
  none_over n o x h k = h ∙ sym (k ∙ ap (λ (l : List CommitSetCx). some_over n l ss) e)

  pub all_many : (m x : Bool) → (m || some_over 1 cs ss) ≡ x → m ≡ x
  all_many m x k = sym (or_end m) ∙ ap (λ (l : List CommitSetCx). m || some_over 1 l ss) (sym e) ∙ k

-- What the search finds decides: whether a sum was over the slots, and, unless one was, whether one had more than one run.
pub sought_commits : (slots : ℕ) (cs : List CommitSetCx) (ss : List Shift) (over many : Bool)
    → over ≡ some_over slots cs ss → (over ≡ false → many ≡ some_over 1 cs ss)
    → commits slots cs ss ≡ (over || (too_deep cs ss || (many && ltb MAX_TERM_GROWTH (pred (length ss) * pred (length cs)))))
unfolding commits
sought_commits slots cs ss true many e h = rw (sym e)
sought_commits slots cs ss false many e h = rw (sym e, h refl)
