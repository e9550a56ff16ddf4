-- With one slot, no term that patching makes has two shifts that are no identities. Assumes nothing.
use mathlib.Core.Path.{◌≡◌, refl, subst}
use Prim.Native.Nat.{ℕ, zero, suc, ◌≤◌, ◌<◌}
use native.Mathlib.Omega.{arith}
use mathlib.Core.Bool.{Bool, true, false, cond}
use mathlib.Core.List.{Memᴰ}
use lib.ListN.{length}
use Rattle.shift.specs.declared.Shift.{Shift}
use Rattle.shift.specs.declared.Composition.{Composition}
use Rattle.shift.specs.declared.Composition.TheVariants as C
use Rattle.shift.specs.Shifts.{identity, shift_at}
use Rattle.shift.specs.Compose.{compose_valid}
use Rattle.operand.specs.declared.PushInner.{PushInner}
use Rattle.operand.specs.declared.PushInner.TheVariants.{Seq, Zero, OverBudget}
use Rattle.operand.specs.Push.{lone_of, fold_outer, first_fold, push_valid}
use Rattle.operand.specs.Numbers.{Term}
use Rattle.lower.specs.Model.{System}
use Rattle.lower.specs.Accepted.{Single}
use Rattle.legraph.specs.Uses.{rhs_of, dst_of}
use Rattle.commit_set.specs.declared.Run.{Run}
use Rattle.commit_set.specs.declared.ShiftSummary.{ShiftSummary}
use Rattle.commit_set.specs.declared.CommitSetCx.{CommitSetCx}
use Rattle.commit_set.specs.declared.Decision.{Decision}
use Rattle.commit_set.specs.Runs.{run_of, absorbs, absorbed, runs, meets, plus}
use Rattle.commit_set.specs.Decision.{contexts_of, Solves}
use Rattle.commit_set.specs.Paths.{committed, Path, from_constraint, from_committed, through}
use Rattle.commit_set.proofs.Compose.{idle, compose_id_first, compose_id_last, Kept}
use Rattle.commit_set.proofs.Fits.{Fits, absorbed_kept}
use Rattle.commit_set.proofs.Members.{root_single, term_single}
use Rattle.commit_set.proofs.Budget.{sum-within, held}

-- an answer with the outer slot free
abbrev pub Lone : PushInner → Type 0
Lone (Seq i o) = idle o ≡ true
Lone Zero = Unit
Lone OverBudget = Unit

lone-lone : (x : Shift) → Lone (lone_of x)
lone-lone x = go (idle x)
  where
    go : (b : Bool) → Lone (cond b (Seq identity identity) (Seq x identity))
    go true = refl
    go false = refl

outer_lone : (m o : Shift) → idle o ≡ true → Lone (fold_outer m o)
outer_lone m o h = go (idle m) refl
  where
    go : (b : Bool) → idle m ≡ b → Lone (fold_outer m o)
    go true e = rw (compose_id_first m o e) (lone-lone o)
    go false e = rw (compose_id_last m o e h) (lone-lone m)

single_lone : (i o s m : Shift) → idle o ≡ true → compose_valid s i ≡ C.Single m → Lone (push_valid i o s 2)
unfolding push_valid
single_lone i o s m h e = rw e (outer_lone m o h)

kept_lone : (i o s : Shift) → idle o ≡ true → Kept s.variant (compose_valid s i) → Lone (push_valid i o s 2)
unfolding push_valid
kept_lone i o s h k = go (compose_valid s i) k
  where
    go : (c : Composition) → Kept s.variant c → Lone (first_fold i o s 2 c)
    go (C.Single m) n = outer_lone m o h
    go C.Zero n = tt
    go C.Pair n = absurd n

module _ (i o s : Shift) (ho : idle o ≡ true) (hs : idle s ≡ false) (hi : idle i ≡ false) where
  met_lone : (n : ℕ) (a b : Run) → Fits i o (runs n a b) → (meets n a b s).len ≤ 1 → Lone (push_valid i o s 2)
  unfolding meets
  met_lone zero a b f l = absurd (omega (arith, f.one hi))
  met_lone (suc zero) a b f l = go (absorbs a s) refl l
    where
      go : (t : Bool) → absorbs a s ≡ t → (cond {A = ShiftSummary} t (runs 1 (absorbed a s) b) (runs 2 a (run_of s))).len ≤ 1 → Lone (push_valid i o s 2)
      go true e k = kept_lone i o s ho (absorbed_kept a i s hi hs (f.in_first hi refl) e)
      go false e k = absurd (omega arith)
  met_lone (suc (suc zero)) a b f l = go (absorbs b s) l
    where
      go : (t : Bool) → (cond {A = ShiftSummary} t (runs 2 a (absorbed b s)) (runs 3 a b)).len ≤ 1 → Lone (push_valid i o s 2)
      go true k = absurd (omega arith)
      go false k = absurd (omega arith)
  met_lone (suc (suc (suc n))) a b f l = absurd (omega arith)

pub step_lone : (i o s : Shift) (r : ShiftSummary) → Fits i o r → idle o ≡ true → (plus r s).len ≤ 1 → Lone (push_valid i o s 2)
unfolding plus
step_lone i o s r f ho l = go (idle s) refl (idle i) refl l
  where
    go : (b : Bool) → idle s ≡ b → (c : Bool) → idle i ≡ c → (cond {A = ShiftSummary} b r (meets r.len r.first r.second s)).len ≤ 1 → Lone (push_valid i o s 2)
    go true e c h k = single_lone i o s i ho (compose_id_first s i e)
    go false e true h k = single_lone i o s s ho (compose_id_last s i e h)
    go false e false h k = met_lone i o s ho e h r.len r.first r.second f k

-- One fold, as in Budget, with one slot.
module _ (slots : ℕ) (p : System) (st : ℕ → Decision) (solves : Solves slots p st)
    (d : ℕ) (l : d < length p.linears) (k : committed (st d) ≡ false) (i o : Shift) (c : CommitSetCx) (m : Memᴰ c (contexts_of p st d)) (f : Fits i o c.shifts)
    (t : Term) (n : Memᴰ t (rhs_of p d)) where
  pub fold_lone : slots ≤ 1 → idle o ≡ true → Lone (push_valid i o (shift_at t.inner) 2)
  fold_lone h a = step_lone i o (shift_at t.inner) c.shifts f a (omega (arith, sum-within slots p st solves d l k c m t n))

module _ (slots : ℕ) (p : System) (st : ℕ → Decision) (solves : Solves slots p st) (single : Single p) (h : slots ≤ 1) where
  along : (w : ℕ) (i o i' o' : Shift) → Path p st w i o → idle o ≡ true → (d : ℕ) → d < length p.linears → w ≡ dst_of p d → committed (st d) ≡ false
      → (t : Term) → Memᴰ t (rhs_of p d) → push_valid i o (shift_at t.inner) 2 ≡ Seq i' o' → idle o' ≡ true
  along w i o i' o' r a d l q k t m e =
      let u = held slots p st solves single r d l q in
      subst (λ (x : PushInner). Lone x) e (fold_lone slots p st solves d l k i o u.0 u.1 u.2 t m h a)

  -- At a defined wire the outer slot is free.
  pub alone : {w : ℕ} {i o : Shift} → Path p st w i o → (d : ℕ) → d < length p.linears → w ≡ dst_of p d → idle o ≡ true
  alone (from_constraint t m) = λ d l q. root_single p single t d m l q
  alone (from_committed t e l k m) = λ d n q. term_single p single t e l m
  alone (through {w = w} {i = i} {o = o} {i' = i'} {o' = o'} t d r l q k m e) = let a = alone r d l q in λ f n v. along w i o i' o' r a d l q k t m e

  -- THE THEOREM. What a fold makes has the outer slot free.
  pub one_shift : (w : ℕ) (i o i' o' : Shift) → Path p st w i o → (d : ℕ) → d < length p.linears → w ≡ dst_of p d → committed (st d) ≡ false
      → (t : Term) → Memᴰ t (rhs_of p d) → push_valid i o (shift_at t.inner) 2 ≡ Seq i' o' → idle o' ≡ true
  one_shift w i o i' o' r d l q k t m e = along w i o i' o' r (alone r d l q) d l q k t m e
