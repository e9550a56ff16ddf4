-- The counts: definitions before = gone + stranded + committed, the other four lists keep their lengths, and kept. Assumes nothing.
use mathlib.Core.Path.{◌≡◌, refl, ap, ◌∙◌}
use mathlib.Core.Logic.{◌≢◌}
use mathlib.Core.Bool.{Bool, true, false, cond, not, ◌&&◌}
use mathlib.Core.List.{List, [], ◌∷◌, append-nil}
use mathlib.Core.Option.{Option, none, some}
use Prim.Native.Nat.{ℕ, zero, suc, ◌+◌, ◌≤◌, ◌<◌}
use native.Mathlib.Omega.{arith}
use native.Mathlib.Decide.{ℕ_discrete}
use lib.Dec.{eqb}
use lib.ListN.{length, length-append, length-map}
use borrow.Author.Tests.{eqb-true, eq-eqb}
use Rattle.operand.specs.Numbers.{Operand}
use Rattle.lower.specs.Lists.{All, more, some_of, keep, sum_of}
use Rattle.lower.specs.Model.{Row, Definition, System, definition_of}
use Rattle.lower.specs.Accepted.{Once}
use Rattle.lower.proofs.Accepts.{defines-none}
use Rattle.patch.specs.Lists.{gather, up_to}
use Rattle.patch.specs.Patch.{entry, commit_at, commits, expand_operand, rebuilt, patch_rows, rebuilds, written, terms_written, all_met, is_gone, is_stranded, gone, stranded, patched, kept}
use Rattle.patch.specs.Counts.{Counted}
use Rattle.patch.proofs.Parts.{Which, is_true, is_false, which, gather_append}

-- ---- lists in parts

pub length_parted : {A : Type 0} (p : A → Bool) (l : List A) → length (keep (λ x. not (p x)) l) + length (keep p l) ≡ length l
length_parted p [] = refl
length_parted {A} p (x ∷ xs) = step (p x) (length_parted p xs)
  where
    step : (b : Bool) → length (keep (λ y. not (p y)) xs) + length (keep p xs) ≡ length xs
        → length (cond (not b) (x ∷ keep (λ y. not (p y)) xs) (keep (λ y. not (p y)) xs)) + length (cond b (x ∷ keep p xs) (keep p xs)) ≡ suc (length xs)
    step true h = omega arith
    step false h = omega arith

-- by two tests: those that fail the first, and pass or fail the second
length-split : {A : Type 0} (c m : A → Bool) (l : List A)
    → length (keep (λ x. not (c x)) l) ≡ length (keep (λ x. not (c x) && m x) l) + length (keep (λ x. not (c x) && not (m x)) l)
length-split c m [] = refl
length-split c m (x ∷ xs) = step (c x) (m x) (length-split c m xs)
  where
    step : (b d : Bool) → length (keep (λ y. not (c y)) xs) ≡ length (keep (λ y. not (c y) && m y) xs) + length (keep (λ y. not (c y) && not (m y)) xs)
        → length (cond (not b) (x ∷ keep (λ y. not (c y)) xs) (keep (λ y. not (c y)) xs))
        ≡ length (cond (not b && d) (x ∷ keep (λ y. not (c y) && m y) xs) (keep (λ y. not (c y) && m y) xs))
        + length (cond (not b && not d) (x ∷ keep (λ y. not (c y) && not (m y)) xs) (keep (λ y. not (c y) && not (m y)) xs))
    step true d h = omega arith
    step false true h = omega arith
    step false false h = omega arith

pub length-gather : {A B : Type 0} (f : A → List B) (l : List A) → length (gather f l) ≡ sum_of (λ (x : A). length (f x)) l
length-gather f [] = refl
length-gather f (x ∷ xs) = length-append (f x) (gather f xs) ∙ rw (length-gather f xs)

gather_last : {B : Type 0} (n : ℕ) (h : ℕ → List B) → length (gather h (up_to (suc n))) ≡ length (gather h (up_to n)) + length (h n)
gather_last n h = rw (gather_append h (up_to n) (n ∷ []), append-nil (h n)) (length-append (gather h (up_to n)) (h n))

-- at most one from each
at_most : {B : Type 0} (f : ℕ → List B) → ((i : ℕ) → length (f i) ≤ 1) → (n : ℕ) → length (gather f (up_to n)) ≤ n
at_most f h zero = omega arith
at_most f h (suc n) = omega (arith, gather_last n f, at_most f h n, h n)

keep_all : {A : Type 0} (l : List A) → keep (λ x. true) l ≡ l
keep_all [] = refl
keep_all {A} (x ∷ xs) = ap (λ (r : List A). x ∷ r) (keep_all xs)

-- two families of lists that differ in length at k alone
module _ {B : Type 0} (f g : ℕ → List B) (k : ℕ) (same : (i : ℕ) → i ≢ k → length (g i) ≡ length (f i)) where
  before : (n : ℕ) → n ≤ k → length (gather g (up_to n)) ≡ length (gather f (up_to n))
  before zero b = refl
  before (suc n) b = omega (arith, gather_last n f, gather_last n g, before n (omega arith), same n (omega arith))

  one_more : (n : ℕ) → k < n → (e : ℕ) → length (g k) ≡ length (f k) + e → length (gather g (up_to n)) ≡ length (gather f (up_to n)) + e
  one_more zero b e h = absurd (omega arith)
  one_more (suc n) b e h = step (λ c. one_more n c e h) (ℕ_discrete n k)
    where
      step : (k < n → length (gather g (up_to n)) ≡ length (gather f (up_to n)) + e) → Dec (n ≡ k) → length (gather g (up_to (suc n))) ≡ length (gather f (up_to (suc n))) + e
      step onward (yes q) = let r : length (g n) ≡ length (f n) + e = rw q h in omega (arith, gather_last n f, gather_last n g, before n (omega arith))
      step onward (no q) = omega (arith, gather_last n f, gather_last n g, onward (omega arith), same n q)

gather-empty : {A B : Type 0} (f : A → List B) → ((x : A) → f x ≡ []) → (l : List A) → gather f l ≡ []
gather-empty f h [] = refl
gather-empty f h (x ∷ xs) = rw (h x) (gather-empty f h xs)

-- ---- committed definitions

module _ (c : ℕ → Bool) (n : ℕ) where
  -- each definition adds one entry, at its wire, if that is committed
  pub count_commits : (ds : List Definition) → Once ds → All (λ (d : Definition). d.dst < n) ds
      → length (gather (commit_at c ds) (up_to n)) ≡ length (keep (λ (d : Definition). c d.dst) ds)
  count_commits [] o h = rw (gather-empty (commit_at c []) (λ i. empty (c i)) (up_to n))
    where
      empty : (b : Bool) → ◌≡◌ {A = List Definition} (cond b [] []) []
      empty true = refl
      empty false = refl
  count_commits (d ∷ ds) o (more b h) =
      one_more (commit_at c ds) (commit_at c (d ∷ ds)) d.dst (λ i q. same i q (which (eqb i d.dst))) n b (cond (c d.dst) 1 0) here
      ∙ tail (c d.dst) (count_commits ds o.1 h)
    where
      same : (i : ℕ) → i ≢ d.dst → Which (eqb i d.dst) → length (commit_at c (d ∷ ds) i) ≡ length (commit_at c ds i)
      same i q (is_true e) = absurd (q (eqb-true i d.dst e))
      same i q (is_false e) = rw e

      at : (b : Bool) → length (cond b (entry d.dst (some d.rhs)) []) ≡ length (cond b (entry d.dst none) []) + cond b 1 0
      at true = refl
      at false = refl

      here : length (commit_at c (d ∷ ds) d.dst) ≡ length (commit_at c ds d.dst) + cond (c d.dst) 1 0
      here = rw (eq-eqb d.dst d.dst refl, (defines-none ds d.dst).0 o.0) (at (c d.dst))

      tail : (b : Bool) → length (gather (commit_at c ds) (up_to n)) ≡ length (keep (λ (e : Definition). c e.dst) ds)
          → length (gather (commit_at c ds) (up_to n)) + cond b 1 0
          ≡ length (cond b (d ∷ keep (λ (e : Definition). c e.dst) ds) (keep (λ (e : Definition). c e.dst) ds))
      tail true k = omega arith
      tail false k = omega arith

-- no more definitions than wires
pub definitions_few : (n : ℕ) (ds : List Definition) → Once ds → All (λ (d : Definition). d.dst < n) ds → length ds ≤ n
definitions_few n ds o h =
    rw (ap length (keep_all ds)) at (rw (count_commits (λ i. true) n ds o h) at (at_most (commit_at (λ i. true) ds) (λ i. few (definition_of ds i) i) n))
  where
    few : (x : Option Operand) (i : ℕ) → length (entry i x) ≤ 1
    few none i = omega arith
    few (some rhs) i = omega arith

-- ---- the theorem

module _ (p : System) (c : ℕ → Bool) where
  pub rows_count : (rs : List Row) → length (patch_rows p c rs) ≡ length rs
  unfolding patch_rows
  rows_count rs = simp (length-append, length-map) (length_parted (rebuilt p.linears) rs)

  -- uncommitted definitions are gone or stranded
  pub uncommitted_count : length (keep (λ (d : Definition). not (c d.dst)) p.linears) ≡ length (gone p c) + length (stranded p c)
  unfolding gone stranded is_gone is_stranded
  uncommitted_count = length-split (λ d. c d.dst) (λ d. some_of (eqb d.dst) (all_met p c)) p.linears

  module _ (once : Once p.linears) (named : All (λ (d : Definition). d.dst < p.wires) p.linears) where
    pub commits_count : length (commits p c) ≡ length (keep (λ (d : Definition). c d.dst) p.linears)
    unfolding commits
    commits_count = count_commits c p.wires p.linears once named

    -- THE THEOREM.
    pub counted : Counted p c
    unfolding patched kept terms_written written
    counted =
        let u = uncommitted_count in
        let l = length_parted (λ (d : Definition). c d.dst) p.linears in
        let k = commits_count in
        let w = definitions_few p.wires p.linears once named in
        record {
          ands_count = rows_count p.ands;
          imuls_count = rows_count p.imuls;
          bmuls_count = rows_count p.bmuls;
          zeros_count = rows_count p.zeros;
          linears_count = omega (arith, u, l, k);
          after_count = simp (length-append, length-map);
          written_count = length-gather (expand_operand p c) (rebuilds p c);
          kept_count = omega (arith, u, l, w);
        }
