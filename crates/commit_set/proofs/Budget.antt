-- While an accepted system is patched by a solution for one or two slots, no fold of a shift goes over the budget.
-- Assumes nothing.
use mathlib.Core.Path.{◌≡◌, refl, sym, ap, ◌∙◌, subst}
use Prim.Native.Nat.{ℕ, ◌≤◌, ◌<◌}
use native.Mathlib.Omega.{arith}
use mathlib.Core.Bool.{Bool, true, false, cond, ◌||◌}
use mathlib.Core.List.Memᴰ
use mathlib.Core.List.{List, [], ◌∷◌, Memᴰ}
use lib.ListN.{length}
use borrow.Author.Tests.{ltb-false}
use Rattle.shift.specs.declared.Shift.{Shift}
use Rattle.shift.specs.Shifts.{shift_at}
use Rattle.operand.specs.declared.PushInner.{PushInner}
use Rattle.operand.specs.declared.PushInner.TheVariants.{Seq, OverBudget}
use Rattle.operand.specs.Push.{push_valid}
use Rattle.operand.specs.Numbers.{Term}
use Rattle.lower.specs.Lists.{some_of, joined}
use Rattle.lower.specs.Model.{System, row_operands}
use Rattle.lower.specs.Accepted.{Single}
use Rattle.lower.proofs.Somes.{neither, none_all}
use Rattle.legraph.specs.Uses.{rhs_of, dst_of}
use Rattle.commit_set.specs.declared.CommitSetCx.{CommitSetCx}
use Rattle.commit_set.specs.declared.Decision.{Decision}
use Rattle.commit_set.specs.declared.Decision.TheVariants.{Commit, Inline}
use Rattle.commit_set.specs.Runs.{plus, join_all, fresh, under}
use Rattle.commit_set.specs.Decision.{below, context_of, contexts_of, shifts_of, term_over, some_over, too_deep, multiplies_out, commits, decide, Solves}
use Rattle.commit_set.specs.Paths.{committed, Path, from_constraint, from_committed, through}
use Rattle.commit_set.proofs.Fits.{Fits, fits-left, fits-right, Safe, step, start}
use Rattle.commit_set.proofs.Members.{all_at, root_single, term_single, use_root, use_term}

-- what fits a use's runs fits all uses' runs joined
fits_all : (i o : Shift) (c : CommitSetCx) (cs : List CommitSetCx) → Memᴰ c cs → Fits i o c.shifts → Fits i o (join_all cs).shifts
unfolding join_all
fits_all i o c [] m f = absurd (Memᴰ.not-nil m)
fits_all i o c (b ∷ cs) (Memᴰ.head e) f = fits-left i o b.shifts (join_all cs).shifts (subst (λ (x : CommitSetCx). Fits i o x.shifts) e f)
fits_all i o c (b ∷ cs) (Memᴰ.tail m) f = fits-right i o b.shifts (join_all cs).shifts (fits_all i o c cs m f)

-- where no sum is over n, each is within it
within : (n : ℕ) (c : CommitSetCx) (cs : List CommitSetCx) (s : Shift) (ss : List Shift) → Memᴰ c cs → Memᴰ s ss → some_over n cs ss ≡ false → (plus c.shifts s).len ≤ n
within n c cs s ss m k e =
    ltb-false n (plus c.shifts s).len
    (all_at (λ (s : Shift). term_over n c s ≡ false) ss s
    (none_all (term_over n c) ss
    (all_at (λ (c : CommitSetCx). some_of (term_over n c) ss ≡ false) cs c (none_all (λ (c : CommitSetCx). some_of (term_over n c) ss) cs e) m)) k)

-- what is decided of a definition that isn't committed
not-commits : (slots : ℕ) (cs : List CommitSetCx) (ss : List Shift) (x : Decision) → x ≡ decide slots cs ss → committed x ≡ false
    → (some_over slots cs ss ≡ false) × (x ≡ Inline (join_all cs))
unfolding commits decide
not-commits slots cs ss x e h = go (commits slots cs ss) refl e
  where
    go : (b : Bool) → commits slots cs ss ≡ b → x ≡ cond b Commit (Inline (join_all cs)) → (some_over slots cs ss ≡ false) × (x ≡ Inline (join_all cs))
    go true k q = let z : true ≡ false = sym (ap committed q) ∙ h in let y : ◌≡◌ {A = ℕ} 0 1 = cc in absurd (omega arith)
    go false k q = ((neither (some_over slots cs ss) (too_deep cs ss || multiplies_out cs ss) k).0, q)

module _ (p : System) (st : ℕ → Decision) where
  -- a term's context stands among those of the definition that it names
  pub root_use : (d : ℕ) (t : Term) → Memᴰ t (joined (row_operands p)) → t.wire ≡ dst_of p d → Memᴰ (fresh (shift_at t.inner)) (contexts_of p st d)
  root_use d t m e = Memᴰ.map (context_of st) (use_root (dst_of p d) t e p m)

  pub term_use : (d e : ℕ) (t : Term) → e < length p.linears → Memᴰ t (rhs_of p e) → t.wire ≡ dst_of p d → Memᴰ (below (st e) (shift_at t.inner)) (contexts_of p st d)
  term_use d e t l m n = Memᴰ.map (context_of st) (use_term (dst_of p d) t n p e l m)

module _ (slots : ℕ) (p : System) (st : ℕ → Decision) (solves : Solves slots p st) where
  -- no sum of a definition that isn't committed is over the slots
  pub sum-within : (d : ℕ) → d < length p.linears → committed (st d) ≡ false → (c : CommitSetCx) → Memᴰ c (contexts_of p st d)
      → (t : Term) → Memᴰ t (rhs_of p d) → (plus c.shifts (shift_at t.inner)).len ≤ slots
  sum-within d l k c m t n =
      within slots c (contexts_of p st d) (shift_at t.inner) (shifts_of (rhs_of p d)) m (Memᴰ.map (λ (t : Term). shift_at t.inner) n)
      (not-commits slots (contexts_of p st d) (shifts_of (rhs_of p d)) (st d) (solves d l) k).0

  below-joined : (d : ℕ) → d < length p.linears → committed (st d) ≡ false → (s : Shift) → below (st d) s ≡ under (join_all (contexts_of p st d)) s
  below-joined d l k s = ap (λ (x : Decision). below x s) (not-commits slots (contexts_of p st d) (shifts_of (rhs_of p d)) (st d) (solves d l) k).1

  -- One fold: where the slots fit the runs of some use of a definition that isn't committed, folding in the shift of one of its terms
  -- doesn't go over the budget, and fits the runs of that term.
  module _ (d : ℕ) (l : d < length p.linears) (k : committed (st d) ≡ false) (i o : Shift) (c : CommitSetCx) (m : Memᴰ c (contexts_of p st d)) (f : Fits i o c.shifts)
      (t : Term) (n : Memᴰ t (rhs_of p d)) where
    pub fold_fits : Safe (below (st d) (shift_at t.inner)).shifts (push_valid i o (shift_at t.inner) 2)
    fold_fits = rw (below-joined d l k (shift_at t.inner)) (step i o (shift_at t.inner) (join_all (contexts_of p st d)).shifts (fits_all i o c (contexts_of p st d) m f))

    pub fold_within : slots ≤ 2 → push_valid i o (shift_at t.inner) 2 ≡ OverBudget → ⊥
    fold_within h e =
        let s = shift_at t.inner in
        let over : 2 < (plus c.shifts s).len = subst (λ (x : PushInner). Safe (plus c.shifts s) x) e (step i o s c.shifts f) in
        omega (arith, sum-within d l k c m t n)

  -- What holds on every path: at a defined wire the slots fit the runs of one of its uses.
  abbrev pub Held : ℕ → Shift → Shift → Type 0
  Held w i o = (d : ℕ) → d < length p.linears → w ≡ dst_of p d → (c : CommitSetCx) × Memᴰ c (contexts_of p st d) × Fits i o c.shifts

  module _ (single : Single p) where
    pub held_root : (t : Term) → Memᴰ t (joined (row_operands p)) → Held t.wire (shift_at t.inner) (shift_at t.outer)
    held_root t m = λ d l e. (
      fresh (shift_at t.inner),
      root_use p st d t m e,
      start (shift_at t.inner) (shift_at t.outer) (root_single p single t d m l e),
    )

    pub held-committed : (t : Term) (e : ℕ) → e < length p.linears → committed (st e) ≡ true → Memᴰ t (rhs_of p e) → Held t.wire (shift_at t.inner) (shift_at t.outer)
    held-committed t e l k m = go (st e) refl k
      where
        go : (x : Decision) → st e ≡ x → committed x ≡ true → Held t.wire (shift_at t.inner) (shift_at t.outer)
        go Commit q h = λ d n u. (
          below (st e) (shift_at t.inner),
          term_use p st d e t l m u,
          rw q (start (shift_at t.inner) (shift_at t.outer) (term_single p single t e l m)),
        )
        go (Inline c) q h = let z : ◌≡◌ {A = ℕ} 0 1 = cc in absurd (omega arith)

  -- through a definition that isn't committed, by a term that isn't dropped
  pub held-through : (w : ℕ) (i o i' o' : Shift) (t : Term) (d : ℕ) → Held w i o → d < length p.linears → w ≡ dst_of p d → committed (st d) ≡ false
      → Memᴰ t (rhs_of p d) → push_valid i o (shift_at t.inner) 2 ≡ Seq i' o' → Held t.wire i' o'
  held-through w i o i' o' t d h l q k m e =
      let u = h d l q in
      λ f n v. (
        below (st d) (shift_at t.inner),
        term_use p st f d t l m v,
        subst (λ (x : PushInner). Safe (below (st d) (shift_at t.inner)).shifts x) e (fold_fits d l k i o u.0 u.1 u.2 t m),
      )

  module _ (single : Single p) where
    pub held : {w : ℕ} {i o : Shift} → Path p st w i o → Held w i o
    held (from_constraint t m) = held_root single t m
    held (from_committed t e l k m) = held-committed single t e l k m
    held (through {w = w} {i = i} {o = o} {i' = i'} {o' = o'} t d r l q k m e) = held-through w i o i' o' t d (held r) l q k m e

    -- THE THEOREM. No fold on any path goes over the budget.
    pub never_over : slots ≤ 2 → (w : ℕ) (i o : Shift) → Path p st w i o → (d : ℕ) → d < length p.linears → w ≡ dst_of p d → committed (st d) ≡ false
        → (t : Term) → Memᴰ t (rhs_of p d) → push_valid i o (shift_at t.inner) 2 ≡ OverBudget → ⊥
    never_over h w i o r d l q k t m = let u = held r d l q in fold_within d l k i o u.0 u.1 u.2 t m h
