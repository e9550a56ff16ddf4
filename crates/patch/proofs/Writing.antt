-- What a program writes and marks, step by step, is the expansion and what it meets. Assumes nothing.
use mathlib.Core.Path.{◌≡◌, refl, sym, ap, ap₂, ◌∙◌, subst}
use Prim.Native.Nat.{ℕ, zero, suc, ◌+◌, ◌-◌, ◌≤◌, ◌<◌}
use native.Mathlib.Omega.{arith}
use native.Mathlib.Decide.{dec_lt}
use mathlib.Core.Bool.{Bool, false}
use mathlib.Core.List.{List, [], ◌∷◌, ◌++◌, map, map-append}
use mathlib.Core.Option.{Option, none, some}
use lib.ListN.{length, take, set, length-append, length-set}
use lib.Seq.{sets, take-append-le, take-append-add}
use borrow.Author.Tests.{lt-ltb, le-ltb}
use Rattle.operand.specs.declared.PushInner.{PushInner}
use Rattle.operand.specs.declared.PushInner.TheVariants.{Seq, Zero, OverBudget}
use Rattle.operand.specs.Numbers.{Term, Operand, term_number}
use Rattle.lower.specs.Model.{System}
use Rattle.lower.specs.Tables.{marks}
use Rattle.patch.specs.Lists.{gather}
use Rattle.patch.specs.Expansion.{folded, descend, below, expand_by, expand, met_by, met}
use Rattle.patch.specs.Patch.{inlined, depth, expand_term, met_term, expand_operand, met_operand, rebuilds, written, all_met}
use Rattle.patch.specs.Steps.{Written, wrote, put, meet, write_down, write_below, write_by, write, write_terms, write_operands, write_term, write_operand, write_all, after, filled, Spilt, Does}

-- ---- stores

pub sets_both : (l : List ℕ) (n : ℕ) (xs ys : List ℕ) → sets (sets l n xs) (n + length xs) ys ≡ sets l n (xs ++ ys)
sets_both l n [] ys = ap (λ (i : ℕ). sets l i ys) (omega arith)
sets_both l n (x ∷ xs) ys = ap (λ (i : ℕ). sets (sets (set l n x) (suc n) xs) i ys) (omega arith) ∙ sets_both (set l n x) (suc n) xs ys

pub sets-length : (l : List ℕ) (n : ℕ) (xs : List ℕ) → length (sets l n xs) ≡ length l
sets-length l n [] = refl
sets-length l n (x ∷ xs) = sets-length (set l n x) (suc n) xs ∙ length-set l n x

pub marks_both : (l xs ys : List ℕ) → marks (marks l xs) ys ≡ marks l (xs ++ ys)
marks_both l [] ys = refl
marks_both l (x ∷ xs) ys = marks_both (set l x 1) xs ys

numbers_length : (ts : List Term) → length (map term_number ts) ≡ length ts
numbers_length [] = refl
numbers_length (t ∷ ts) = ap suc (numbers_length ts)

-- ---- a store that is full

module _ (new : List ℕ) (n : ℕ) (a b : List Term) (m : Written) where
  -- what comes after the term that found no room changes nothing
  pub spilt_before : length new ≤ n + length a → Spilt new n a m → Spilt new n (a ++ b) m
  spilt_before h q =
      record {
        front = q.front ∙ ap (λ (ts : List Term). sets new n (map term_number ts)) (sym (take-append-le (length new - n) a b (omega (arith, h))));
        at_end = q.at_end;
        no_room = q.no_room;
      }

  -- what comes before it stands in the store
  pub spilt_behind : n + length a ≤ length new → Spilt (sets new n (map term_number a)) (n + length a) b m → Spilt new n (a ++ b) m
  spilt_behind h q =
      let long = sets-length new n (map term_number a) in
      let i : n + length a ≡ n + length (map term_number a) = omega (arith, numbers_length a) in
      let k : length (sets new n (map term_number a)) - (n + length a) ≡ length new - n - length a = omega (arith, long) in
      let j : length a + (length new - n - length a) ≡ length new - n = omega (arith, h) in
      let rest : List Term = take (length new - n - length a) b in
      record {
        front =
            q.front
            ∙ ap₂ (λ (x y : ℕ). sets (sets new n (map term_number a)) x (map term_number (take y b))) i k
            ∙ sets_both new n (map term_number a) (map term_number rest)
            ∙ ap (sets new n) (sym (map-append term_number a rest))
            ∙ ap (λ (ts : List Term). sets new n (map term_number ts)) (sym (take-append-add a b (length new - n - length a)) ∙ ap (λ (x : ℕ). take x (a ++ b)) j);
        at_end = q.at_end ∙ long;
        no_room = q.no_room;
      }

-- ---- steps

pub does_nothing : Does (λ m. m) [] []
does_nothing = record { stays = λ m e. refl; fits = λ m e h. same m e; over = λ m e l h. absurd (omega arith) }
  where
    same : (m : Written) → m.full ≡ false → m ≡ after m [] []
    same m e = let z : m.count ≡ m.count + 0 = omega arith in ap₂ (λ (n : ℕ) (b : Bool). wrote m.new n m.met b) z e

pub does_put : (t : Term) → Does (put t) (t ∷ []) []
unfolding put
does_put t = record { stays = λ m e. rw e; fits = fits; over = over }
  where
    fits : (m : Written) → m.full ≡ false → m.count + 1 ≤ length m.new → put t m ≡ after m (t ∷ []) []
    fits m e h =
        let z : suc m.count ≡ m.count + 1 = omega arith in
        rw (e, lt-ltb m.count (length m.new) (omega (arith, h))) (ap (λ (n : ℕ). wrote (set m.new m.count (term_number t)) n m.met false) z)

    over : (m : Written) → m.full ≡ false → m.count ≤ length m.new → length m.new < m.count + 1 → Spilt m.new m.count (t ∷ []) (put t m)
    over m e l h =
        let none : 0 ≡ length m.new - m.count = omega (arith, h) in
        let is : put t m ≡ filled m = rw (e, le-ltb m.count (length m.new) (omega (arith, h))) in
        subst (Spilt m.new m.count (t ∷ [])) (sym is)
        (record {
          front = ap (λ (n : ℕ). sets m.new m.count (map term_number (take n (t ∷ [])))) none;
          at_end = omega (arith, l, h);
          no_room = refl;
        })

pub does_meet : (w : ℕ) → Does (meet w) [] (w ∷ [])
unfolding meet
does_meet w = record { stays = λ m e. rw e; fits = fits; over = λ m e l h. absurd (omega arith) }
  where
    fits : (m : Written) → m.full ≡ false → m.count + 0 ≤ length m.new → meet w m ≡ after m [] (w ∷ [])
    fits m e h = let z : m.count ≡ m.count + 0 = omega arith in rw e (ap (λ (n : ℕ). wrote m.new n (set m.met w 1) false) z)

module _ (f g : Written → Written) (a b : List Term) (u v : List ℕ) (hf : Does f a u) (hg : Does g b v) where
  long : length (a ++ b) ≡ length a + length b
  long = length-append a b

  twice : (m : Written) → after (after m a u) b v ≡ after m (a ++ b) (u ++ v)
  twice m =
      let k : m.count + length a + length b ≡ m.count + length (a ++ b) = omega (arith, long) in
      let i : m.count + length a ≡ m.count + length (map term_number a) = omega (arith, numbers_length a) in
      rw (k, marks_both m.met u v, map-append term_number a b, i, sets_both m.new m.count (map term_number a) (map term_number b))

  -- one after the other
  pub does_both : Does (λ m. g (f m)) (a ++ b) (u ++ v)
  does_both = record { stays = λ m e. ap g (hf.stays m e) ∙ hg.stays m e; fits = fits; over = over }
    where
      room : (m : Written) → length (after m a u).new ≡ length m.new
      room m = sets-length m.new m.count (map term_number a)

      fits : (m : Written) → m.full ≡ false → m.count + length (a ++ b) ≤ length m.new → g (f m) ≡ after m (a ++ b) (u ++ v)
      fits m e h = ap g (hf.fits m e (omega (arith, h, long))) ∙ hg.fits (after m a u) refl (omega (arith, h, long, room m)) ∙ twice m

      over : (m : Written) → m.full ≡ false → m.count ≤ length m.new → length m.new < m.count + length (a ++ b) → Spilt m.new m.count (a ++ b) (g (f m))
      over m e l h = step (dec_lt (length m.new) (m.count + length a))
        where
          step : Dec (length m.new < m.count + length a) → Spilt m.new m.count (a ++ b) (g (f m))
          step (yes k) =
              let q = hf.over m e l k in
              subst (Spilt m.new m.count (a ++ b)) (sym (hg.stays (f m) q.no_room)) (spilt_before m.new m.count a b (f m) (omega (arith, k)) q)
          step (no k) =
              subst (λ (x : Written). Spilt m.new m.count (a ++ b) (g x)) (sym (hf.fits m e (omega (arith, k))))
              (spilt_behind m.new m.count a b (g (after m a u)) (omega (arith, k)) (hg.over (after m a u) refl (omega (arith, k, room m)) (omega (arith, h, long, room m))))

-- ---- expansion

module _ (go : Term → Written → Written) (ex : Term → List Term) (mt : Term → List ℕ) (does : (t : Term) → Does (go t) (ex t) (mt t)) where
  pub does_down : (w : ℕ) (x : PushInner) → Does (write_down go w x) (descend ex w x) (descend mt w x)
  does_down w (Seq i o) = does _
  does_down w Zero = does_nothing
  does_down w OverBudget = does_nothing

  pub does_below : (t : Term) (us : Operand) → Does (write_below go t us) (below ex t us) (below mt t us)
  unfolding write_below
  does_below t [] = does_nothing
  does_below t (u ∷ us) =
      does_both (write_down go u.wire (folded t u)) (write_below go t us) (descend ex u.wire (folded t u)) (below ex t us) (descend mt u.wire (folded t u)) (below mt t us)
      (does_down u.wire (folded t u)) (does_below t us)

  pub does_terms : (ts : Operand) → Does (write_terms go ts) (gather ex ts) (gather mt ts)
  unfolding write_terms
  does_terms [] = does_nothing
  does_terms (t ∷ ts) = does_both (go t) (write_terms go ts) (ex t) (gather ex ts) (mt t) (gather mt ts) (does t) (does_terms ts)

  pub does_operands : (os : List Operand) → Does (write_operands go os) (gather (gather ex) os) (gather (gather mt) os)
  unfolding write_operands
  does_operands [] = does_nothing
  does_operands (o ∷ os) =
      does_both (write_terms go o) (write_operands go os) (gather ex o) (gather (gather ex) os) (gather mt o) (gather (gather mt) os) (does_terms o) (does_operands os)

module _ (D : ℕ → Option Operand) where
  does_write : (n : ℕ) (t : Term) → Does (write D n t) (expand D n t) (met D n t)
  does_write zero t = does_put t
  does_write (suc n) t = step (λ u. does_write n u) (D t.wire)
    where
      step : ((u : Term) → Does (write D n u) (expand D n u) (met D n u)) → (o : Option Operand) → Does (write_by (λ u l. write D n u l) t o) (expand_by (λ u. expand D n u) t o) (met_by (λ u. met D n u) t o)
      step ih none = does_put t
      step ih (some rhs) =
          does_both (meet t.wire) (write_below (λ u l. write D n u l) t rhs) [] (below (λ u. expand D n u) t rhs) (t.wire ∷ []) (below (λ u. met D n u) t rhs)
          (does_meet t.wire) (does_below (λ u l. write D n u l) (λ u. expand D n u) (λ u. met D n u) ih t rhs)

-- THE THEOREM. What is written and marked is what the lists are patched with.
module _ (p : System) (c : ℕ → Bool) where
  pub does_term : (t : Term) → Does (write_term p c t) (expand_term p c t) (met_term p c t)
  unfolding write_term expand_term met_term
  does_term t = does_write (inlined p c) (depth p c) t

  pub does_operand : (o : Operand) → Does (write_operand p c o) (expand_operand p c o) (met_operand p c o)
  unfolding expand_operand met_operand
  does_operand o = does_terms (write_term p c) (expand_term p c) (met_term p c) does_term o

  pub does_all : Does (write_all p c (rebuilds p c)) (written p c) (all_met p c)
  unfolding written all_met expand_operand met_operand
  does_all = does_operands (write_term p c) (expand_term p c) (met_term p c) does_term (rebuilds p c)
