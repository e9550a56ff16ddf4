-- The invariant between a term's two slots on a path of the patching and the runs of the use that the path has come to: what it starts
-- with, that a join keeps it, and what folding one more shift in makes of it. Totals and amounts play no part in it.
-- Assumes nothing.
use mathlib.Core.Path.{◌≡◌, refl}
use Prim.Native.Nat.{ℕ, zero, suc, ◌≤◌, ◌<◌}
use native.Mathlib.Omega.{arith}
use mathlib.Core.Bool.{Bool, true, false, cond, ◌&&◌}
use lib.Dec.{eqb}
use borrow.Author.Tests.{eqb-true}
use Rattle.shift.specs.declared.Shift.{Shift}
use Rattle.shift.specs.declared.Composition.{Composition}
use Rattle.shift.specs.declared.Composition.TheVariants as C
use Rattle.shift.specs.Shifts.{identity}
use Rattle.shift.specs.Compose.{compose_valid}
use Rattle.operand.specs.declared.PushInner.{PushInner}
use Rattle.operand.specs.declared.PushInner.TheVariants.{Seq, Zero, OverBudget}
use Rattle.operand.specs.Push.{lone_of, second_fold, fold_outer, first_fold, push_valid}
use Rattle.commit_set.specs.declared.Run.{Run}
use Rattle.commit_set.specs.declared.ShiftSummary.{ShiftSummary}
use Rattle.commit_set.specs.Runs.{bit_of, no_run, run_of, absorbs, absorbed, runs, no_runs, meets, plus, join_runs}
use Rattle.commit_set.proofs.Sets.{Has, has_left, has_right, has_only, only_has}
use Rattle.commit_set.proofs.Compose.{idle, compose_id_first, compose_id_last, Kept, same_kept, free_kept}

-- The run accounts for the shift: its variant is in the run's set.
abbrev pub Covers : Run → Shift → Type 0
Covers r s = Has s.variant r.variants

-- THE INVARIANT, of the slots i (inner) and o (outer) and the runs r.
pub record Fits (i o : Shift) (r : ShiftSummary) : Type 0 where
  pub one : idle i ≡ false → 1 ≤ r.len
  pub two : idle o ≡ false → 2 ≤ r.len
  pub in_first : idle i ≡ false → r.len ≡ 1 → Covers r.first i
  pub in_second : idle i ≡ false → idle o ≡ false → r.len ≡ 2 → Covers r.second i

-- An answer of `push_valid` that the runs r allow: over budget only where the runs are.
abbrev pub Safe : ShiftSummary → PushInner → Type 0
Safe r (Seq i o) = Fits i o r
Safe r Zero = Unit
Safe r OverBudget = 2 < r.len

clash : {A : Type 0} {b : Bool} → b ≡ true → b ≡ false → A
clash e h = let z : ◌≡◌ {A = ℕ} 0 1 = cc in absurd (omega arith)

-- a join only weakens
pub fits-left : (i o : Shift) (r q : ShiftSummary) → Fits i o r → Fits i o (join_runs r q)
fits-left i o r q f = record {
  one = λ h. omega (arith, f.one h);
  two = λ e. omega (arith, f.two e);
  in_first = λ h k. has_left i.variant r.first.variants q.first.variants (f.in_first h (omega (arith, f.one h)));
  in_second = λ h e k. has_left i.variant r.second.variants q.second.variants (f.in_second h e (omega (arith, f.two e)));
}

pub fits-right : (i o : Shift) (r q : ShiftSummary) → Fits i o q → Fits i o (join_runs r q)
fits-right i o r q f = record {
  one = λ h. omega (arith, f.one h);
  two = λ e. omega (arith, f.two e);
  in_first = λ h k. has_right i.variant r.first.variants q.first.variants (f.in_first h (omega (arith, f.one h)));
  in_second = λ h e k. has_right i.variant r.second.variants q.second.variants (f.in_second h e (omega (arith, f.two e)));
}

and_left : (a b : Bool) → (a && b) ≡ true → a ≡ true
and_left true b e = refl
and_left false b e = e

absorbs-set : (r : Run) (s : Shift) → absorbs r s ≡ true → r.variants ≡ bit_of s.variant
absorbs-set r s e = eqb-true r.variants (bit_of s.variant) (and_left (eqb r.variants (bit_of s.variant)) _ e)

covers_absorbed : (r : Run) (s : Shift) → absorbs r s ≡ true → Covers (absorbed r s) s
covers_absorbed r s a = rw (absorbs-set r s a) (only_has s.variant)

-- a shift absorbed by the run that covers i comes, with i, to one shift of that variant or to nothing
pub absorbed_kept : (r : Run) (i s : Shift) → idle i ≡ false → idle s ≡ false → Covers r i → absorbs r s ≡ true → Kept s.variant (compose_valid s i)
absorbed_kept r i s hi hs c a = same_kept s i hs hi (has_only i.variant s.variant (rw (absorbs-set r s a) at c))

-- What adding a shift that is no identity does to runs: the innermost run then covers it.
record Added (r q : ShiftSummary) (s : Shift) : Type 0 where
  some : 1 ≤ q.len
  grows : 2 ≤ r.len → 2 ≤ q.len
  first_covers : q.len ≡ 1 → Covers q.first s
  second_covers : q.len ≡ 2 → Covers q.second s

added : (n : ℕ) (a b : Run) (s : Shift) → Added (runs n a b) (meets n a b s) s
unfolding meets
added zero a b s = record { some = omega arith; grows = omega arith; first_covers = λ e. only_has s.variant; second_covers = λ e. absurd (omega arith) }
added (suc zero) a b s = go (absorbs a s) refl
  where
    go : (t : Bool) → absorbs a s ≡ t → Added (runs 1 a b) (cond t (runs 1 (absorbed a s) b) (runs 2 a (run_of s))) s
    go true e = record { some = omega arith; grows = omega arith; first_covers = λ k. covers_absorbed a s e; second_covers = λ k. absurd (omega arith) }
    go false e = record { some = omega arith; grows = omega arith; first_covers = λ k. absurd (omega arith); second_covers = λ k. only_has s.variant }
added (suc (suc zero)) a b s = go (absorbs b s) refl
  where
    go : (t : Bool) → absorbs b s ≡ t → Added (runs 2 a b) (cond t (runs 2 a (absorbed b s)) (runs 3 a b)) s
    go true e = record { some = omega arith; grows = omega arith; first_covers = λ k. absurd (omega arith); second_covers = λ k. covers_absorbed b s e }
    go false e = record { some = omega arith; grows = omega arith; first_covers = λ k. absurd (omega arith); second_covers = λ k. absurd (omega arith) }
added (suc (suc (suc n))) a b s = record { some = omega arith; grows = omega arith; first_covers = λ e. absurd (omega arith); second_covers = λ e. absurd (omega arith) }

lone_safe : (x : Shift) (r : ShiftSummary) → (idle x ≡ false → 1 ≤ r.len) → (idle x ≡ false → r.len ≡ 1 → Covers r.first x) → Safe r (lone_of x)
lone_safe x r h k = go (idle x)
  where
    go : (b : Bool) → Safe r (cond b (Seq identity identity) (Seq x identity))
    go true = record { one = λ n. clash refl n; two = λ n. clash refl n; in_first = λ n. clash refl n; in_second = λ n. clash refl n }
    go false = record { one = h; two = λ n. clash refl n; in_first = k; in_second = λ m n. clash refl n }

-- slots that fit stay so when the inner one is tried against the outer one
outer_safe : (m o : Shift) (r : ShiftSummary) → Fits m o r → Safe r (fold_outer m o)
outer_safe m o r f = go (idle m) refl (idle o) refl
  where
    pair : (c : Composition) → 2 ≤ r.len → Safe r (second_fold m o c)
    pair (C.Single x) h = lone_safe x r (λ e. omega arith) (λ e k. absurd (omega arith))
    pair C.Zero h = tt
    pair C.Pair h = f

    go : (a : Bool) → idle m ≡ a → (b : Bool) → idle o ≡ b → Safe r (fold_outer m o)
    go true e b h = rw (compose_id_first m o e) (lone_safe o r (λ n. omega (arith, f.two n)) (λ n k. absurd (omega (arith, f.two n))))
    go false e true h = rw (compose_id_last m o e h) (lone_safe m r f.one f.in_first)
    go false e false h = pair (compose_valid m o) (f.two h)

module _ (i o s : Shift) (q : ShiftSummary) where
  -- the new shift s and the inner one come to a shift of s's variant, or to nothing
  tight : Kept s.variant (compose_valid s i) → ((m : Shift) → (idle m ≡ false → m.variant ≡ s.variant) → Fits m o q) → Safe q (push_valid i o s 2)
  unfolding push_valid
  tight k f = go (compose_valid s i) k
    where
      go : (c : Composition) → Kept s.variant c → Safe q (first_fold i o s 2 c)
      go (C.Single m) h = outer_safe m o q (f m h)
      go C.Zero h = tt
      go C.Pair h = absurd h

  -- nothing is known of what they come to
  loose : 2 ≤ q.len → (q.len ≡ 2 → Covers q.second s) → (idle o ≡ false → 2 < q.len) → Safe q (push_valid i o s 2)
  unfolding push_valid
  loose h k l = go (compose_valid s i)
    where
      room : (b : Bool) → idle o ≡ b → Safe q (cond b (Seq s i) OverBudget)
      room true e = record { one = λ n. omega arith; two = λ n. h; in_first = λ n c. absurd (omega arith); in_second = λ n m c. k c }
      room false e = l e

      go : (c : Composition) → Safe q (first_fold i o s 2 c)
      go (C.Single m) = outer_safe m o q (record { one = λ n. omega arith; two = λ n. h; in_first = λ n c. absurd (omega arith); in_second = λ n p c. absurd (omega (arith, l p)) })
      go C.Zero = tt
      go C.Pair = room (idle o) refl

-- what covers a shift covers one of the same variant
covers_same : (r : Run) (s m : Shift) → m.variant ≡ s.variant → Covers r s → Covers r m
covers_same r s m e c = rw e c

-- s is no identity
module _ (i o s : Shift) (hs : idle s ≡ false) where
  -- the inner slot is free
  free : (n : ℕ) (a b : Run) → idle i ≡ true → Fits i o (runs n a b) → Safe (meets n a b s) (push_valid i o s 2)
  free n a b e f =
      let d = added n a b s in
      tight i o s (meets n a b s) (free_kept s i hs e) (λ m k. record {
        one = λ l. d.some;
        two = λ l. d.grows (f.two l);
        in_first = λ l c. covers_same (meets n a b s).first s m (k l) (d.first_covers c);
        in_second = λ l p c. covers_same (meets n a b s).second s m (k l) (d.second_covers c);
      })

  taken : (n : ℕ) (a b : Run) → idle i ≡ false → Fits i o (runs n a b) → Safe (meets n a b s) (push_valid i o s 2)
  unfolding meets
  taken zero a b e f = absurd (omega (arith, f.one e))
  taken (suc zero) a b e f = go (absorbs a s) refl
    where
      go : (t : Bool) → absorbs a s ≡ t → Safe (cond t (runs 1 (absorbed a s) b) (runs 2 a (run_of s))) (push_valid i o s 2)
      go true h =
          tight i o s (runs 1 (absorbed a s) b) (absorbed_kept a i s e hs (f.in_first e refl) h) (λ m k. record {
            one = λ l. omega arith;
            two = λ l. absurd (omega (arith, f.two l));
            in_first = λ l c. covers_same (absorbed a s) s m (k l) (covers_absorbed a s h);
            in_second = λ l p c. absurd (omega arith);
          })
      go false h = loose i o s (runs 2 a (run_of s)) (omega arith) (λ c. only_has s.variant) (λ k. absurd (omega (arith, f.two k)))
  taken (suc (suc zero)) a b e f = go (absorbs b s) refl
    where
      both : absorbs b s ≡ true → (t : Bool) → idle o ≡ t → Safe (runs 2 a (absorbed b s)) (push_valid i o s 2)
      both h true k = loose i o s (runs 2 a (absorbed b s)) (omega arith) (λ c. covers_absorbed b s h) (λ l. clash k l)
      both h false k =
          tight i o s (runs 2 a (absorbed b s)) (absorbed_kept b i s e hs (f.in_second e k refl) h) (λ m n. record {
            one = λ l. omega arith;
            two = λ l. omega arith;
            in_first = λ l c. absurd (omega arith);
            in_second = λ l p c. covers_same (absorbed b s) s m (n l) (covers_absorbed b s h);
          })

      go : (t : Bool) → absorbs b s ≡ t → Safe (cond t (runs 2 a (absorbed b s)) (runs 3 a b)) (push_valid i o s 2)
      go true h = both h (idle o) refl
      go false h = loose i o s (runs 3 a b) (omega arith) (λ c. absurd (omega arith)) (λ k. omega arith)
  taken (suc (suc (suc n))) a b e f = loose i o s (runs 3 a b) (omega arith) (λ c. absurd (omega arith)) (λ k. omega arith)

unmoved : (i o s : Shift) (r : ShiftSummary) → idle s ≡ true → Fits i o r → Safe r (push_valid i o s 2)
unfolding push_valid
unmoved i o s r e f = rw (compose_id_first s i e) (outer_safe i o r f)

-- THE STEP. Slots that fit the runs, with one more shift folded in, fit the runs with that shift added; and only runs over the budget go over it.
pub step : (i o s : Shift) (r : ShiftSummary) → Fits i o r → Safe (plus r s) (push_valid i o s 2)
unfolding plus
step i o s r f = go (idle s) refl (idle i) refl
  where
    go : (b : Bool) → idle s ≡ b → (c : Bool) → idle i ≡ c → Safe (cond b r (meets r.len r.first r.second s)) (push_valid i o s 2)
    go true e c h = unmoved i o s r e f
    go false e true h = free i o s e r.len r.first r.second h f
    go false e false h = taken i o s e r.len r.first r.second h f

-- What a path starts with: a term whose outer shift is an identity.
pub start : (i o : Shift) → idle o ≡ true → Fits i o (plus no_runs i)
unfolding plus
start i o h = go (idle i) refl
  where
    go : (b : Bool) → idle i ≡ b → Fits i o (cond b no_runs (meets 0 no_run no_run i))
    go true e = record { one = λ k. clash e k; two = λ k. clash h k; in_first = λ k. clash e k; in_second = λ l k. clash h k }
    go false e =
        let d = added 0 no_run no_run i in
        record { one = λ k. d.some; two = λ k. clash h k; in_first = λ k c. d.first_covers c; in_second = λ l k. clash h k }
