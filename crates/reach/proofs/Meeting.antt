-- An uncommitted definition is met while operands are rebuilt exactly where its mask is not 0. Assumes nothing.
use mathlib.Core.Path.{◌≡◌, refl, sym, ap, ◌∙◌}
use mathlib.Core.Bool.{false, Bool, true}
use mathlib.Core.List.{List, ◌++◌, Memᴰ}
use mathlib.Core.Option.{Option, none, some}
use Prim.Native.Nat.{ℕ, zero, suc, ◌^◌, ◌<◌}
use lib.Dec.{lit<}
use lib.Bits.{bit_and, and_zero_r}
use borrow.Author.Tests.{eqb-true, eq-eqb}
use Rattle.shift.specs.Shifts.{shift_at, apply_of}
use Rattle.shift.proofs.Linear.{still, shifted_lt}
use Rattle.operand.specs.declared.PushInner.{PushInner}
use Rattle.operand.specs.declared.PushInner.TheVariants.{Seq, Zero, OverBudget}
use Rattle.operand.specs.Numbers.{Term, Operand}
use Rattle.alive.specs.Masks.{ones}
use Rattle.alive.proofs.Ors.{misses_left, misses_right}
use Rattle.alive.proofs.Pulls.{pulled-right}
use Rattle.alive.proofs.Living.{shift_alive}
use Rattle.lower.specs.Lists.{All, done, more, keep, joined}
use Rattle.lower.specs.Model.{definition_of, Row, Definition, System, defines, row_operands, definition_operands, terms_of}
use Rattle.lower.specs.Accepted.{ShiftsOf, Shifted, Single, is_identity}
use Rattle.lower.proofs.Laws.{all_left, all_right, all_both}
use Rattle.lower.proofs.Alls.{all_join, all_unjoin, all_unmap}
use Rattle.lower.proofs.Accepts.{defines-none}
use Rattle.commit_set.proofs.Members.{all_at, all_roots, all_terms}
use Rattle.shift.proofs.Numbers.{valid_at}
use Rattle.patch.specs.Expansion.{under, folded, descend, DescendFits, met_by, met, FitsBy, Fits}
use Rattle.patch.specs.Patch.{inlined, depth, met_term, met_operand, commits, rebuilt, row_rebuilds, rhss_of, rebuilds, all_met, NeverOver}
use Rattle.patch.proofs.Parts.{Which, is_true, is_false, which, lost, all_each, all_members, all_keep, all_unkept, all_mapped, all_gather}
use Rattle.patch.proofs.Chains.{inlined_defined}
use Rattle.patch.proofs.Definitions.{of_looked_up, inlined_uncommitted, commits_of, commits_at}
use Rattle.reach.specs.Alive.{or_all, carried}
use Rattle.reach.specs.Reach.{from_root, from_term, from_definition, IsReach}
use Rattle.reach.proofs.Joins.{misses_each, pulled_clears, fold_seq, fold_alive}
use Rattle.reach.proofs.Writing.{inlined_shifts}

-- ---- the terms of what is rebuilt

-- what holds of the terms of constraints and of committed definitions holds of the terms of the operands that are rebuilt
pub roots_by : {P : Term → Type 0} (p : System) (c : ℕ → Bool) → All (All P) (row_operands p)
    → ((w : ℕ) (rhs : Operand) → c w ≡ true → definition_of p.linears w ≡ some rhs → All P rhs) → All (All P) (rebuilds p c)
unfolding rebuilds row_rebuilds row_operands
roots_by {P} p c r f =
    let r1 = all_right (All P) (joined p.ands) (joined p.imuls ++ (joined p.bmuls ++ joined p.zeros)) r in
    let r2 = all_right (All P) (joined p.imuls) (joined p.bmuls ++ joined p.zeros) r1 in
    all_both (All P) (rows p.ands (all_left (All P) (joined p.ands) (joined p.imuls ++ (joined p.bmuls ++ joined p.zeros)) r))
    (all_both (All P) (rows p.imuls (all_left (All P) (joined p.imuls) (joined p.bmuls ++ joined p.zeros) r1))
    (all_both (All P) (rows p.bmuls (all_left (All P) (joined p.bmuls) (joined p.zeros) r2))
    (all_both (All P) (rows p.zeros (all_right (All P) (joined p.bmuls) (joined p.zeros) r2))
    (all_mapped (λ (d : Definition). d.rhs) (commits_of p c {Q = λ (d : Definition). All P d.rhs} f)))))
  where
    rows : (rs : List Row) → All (All P) (joined rs) → All (All P) (row_rebuilds p c rs)
    rows rs k = all_join (All P) (keep (rebuilt p.linears) rs) (all_keep (rebuilt p.linears) (all_unjoin (All P) rs k))

-- what holds of the terms of the operands that are rebuilt, and of those of the constraints that are not, holds of the terms of constraints
pub rows_by : {P : Term → Type 0} (p : System) (c : ℕ → Bool) → All (All P) (rebuilds p c)
    → ((r : Row) → rebuilt p.linears r ≡ false → All (All P) r) → All (All P) (row_operands p)
unfolding rebuilds row_rebuilds row_operands
rows_by {P} p c r f =
    let z : All (All P) (row_rebuilds p c p.zeros ++ rhss_of (commits p c)) = all_right (All P) (row_rebuilds p c p.bmuls) _ (all_right (All P) (row_rebuilds p c p.imuls) _ (all_right (All P) (row_rebuilds p c p.ands) _ r)) in
    all_both (All P) (rows p.ands (all_left (All P) (row_rebuilds p c p.ands) _ r))
    (all_both (All P) (rows p.imuls (all_left (All P) (row_rebuilds p c p.imuls) _ (all_right (All P) (row_rebuilds p c p.ands) _ r)))
    (all_both (All P) (rows p.bmuls (all_left (All P) (row_rebuilds p c p.bmuls) _ (all_right (All P) (row_rebuilds p c p.imuls) _ (all_right (All P) (row_rebuilds p c p.ands) _ r))))
    (rows p.zeros (all_left (All P) (row_rebuilds p c p.zeros) _ z))))
  where
    one : (x : Row) → (rebuilt p.linears x ≡ true → All (All P) x) → Which (rebuilt p.linears x) → All (All P) x
    one x g (is_true q) = g q
    one x g (is_false q) = f x q

    rows : (rs : List Row) → All (All P) (row_rebuilds p c rs) → All (All P) (joined rs)
    rows rs k = all_join (All P) rs (all_each (λ x g. one x g (which (rebuilt p.linears x))) (all_unkept (rebuilt p.linears) rs (all_unjoin (All P) (keep (rebuilt p.linears) rs) k)))

-- and the committed definitions
pub commits-by : {P : Term → Type 0} (p : System) (c : ℕ → Bool) → All (All P) (rebuilds p c)
    → (w : ℕ) (rhs : Operand) → w < p.wires → c w ≡ true → definition_of p.linears w ≡ some rhs → All P rhs
unfolding rebuilds
commits-by {P} p c r w rhs b k e =
    commits_at p c {Q = λ (d : Definition). All P d.rhs}
    (all_unmap (All P) (λ (d : Definition). d.rhs) (commits p c)
    (all_right (All P) (row_rebuilds p c p.zeros) _ (all_right (All P) (row_rebuilds p c p.bmuls) _ (all_right (All P) (row_rebuilds p c p.imuls) _ (all_right (All P) (row_rebuilds p c p.ands) _ r)))))
    w rhs b k e

-- what holds of every term holds of the terms of the operands that are rebuilt
pub roots_of : {P : Term → Type 0} (p : System) (c : ℕ → Bool) → All P (terms_of p) → All (All P) (rebuilds p c)
unfolding definition_operands
roots_of {P} p c h =
    roots_by p c (all_unjoin P (row_operands p) (all_roots P p h))
    (λ w rhs k e. of_looked_up {P = λ (d : Definition). All P d.rhs} (all_unmap (All P) (λ (d : Definition). d.rhs) p.linears (all_unjoin P (definition_operands p) (all_terms P p h))) w rhs e)

-- a wire that has a right side is defined
pub defines-by : (ds : List Definition) (w : ℕ) (rhs : Operand) → definition_of ds w ≡ some rhs → defines ds w ≡ true
defines-by ds w rhs e = step (which (defines ds w))
  where
    step : Which (defines ds w) → defines ds w ≡ true
    step (is_true q) = q
    step (is_false q) = absurd (lost e ((defines-none ds w).0 q))

-- a wire whose definition is put in its place is defined
pub inlined_defines : (p : System) (c : ℕ → Bool) (w : ℕ) (rhs : Operand) → inlined p c w ≡ some rhs → defines p.linears w ≡ true
inlined_defines p c w rhs e = defines-by p.linears w rhs (inlined_defined p c w rhs e)

module _ (p : System) (c : ℕ → Bool) (shifted : Shifted p) (r : ℕ → ℕ) (is : IsReach p c r) where
  abbrev D : ℕ → Option Operand
  D = inlined p c

  -- ---- what the masks cover

  -- a word that has no bit in the mask of its wire, an uncommitted definition, is cleared by the term's shifts
  abbrev Covered : Term → Type 0
  Covered t = (rhs : Operand) → D t.wire ≡ some rhs → (x : ℕ) → x < 2 ^ 64 → bit_and x (r t.wire) ≡ 0 → carried t x ≡ 0

  root_covered : All (All ShiftsOf) (rebuilds p c) → (o : Operand) → Memᴰ o (rebuilds p c) → (t : Term) → Memᴰ t o → Covered t
  root_covered valid o m t k s d x b e =
      let h : ShiftsOf t = all_at ShiftsOf o t (all_at (All ShiftsOf) (rebuilds p c) o valid m) k in
      let n : bit_and x (or_all (from_root t.wire) (joined (rebuilds p c))) ≡ 0
      = misses_left 64 x (or_all (from_root t.wire) (joined (rebuilds p c))) (or_all (from_definition p c r t.wire) p.linears) b (ap (bit_and x) (sym (is.sums t.wire (inlined_defines p c t.wire s d))) ∙ e) in
      let each = all_unjoin (λ (v : Term). bit_and x (from_root t.wire v) ≡ 0) (rebuilds p c) (misses_each (from_root t.wire) x b (joined (rebuilds p c)) n) in
      let here : bit_and x (from_root t.wire t) ≡ 0
      = all_at (λ (v : Term). bit_and x (from_root t.wire v) ≡ 0) o t (all_at (All (λ (v : Term). bit_and x (from_root t.wire v) ≡ 0)) (rebuilds p c) o each m) k in
      pulled_clears t h x b (rw (eq-eqb t.wire t.wire refl) at here)

  -- a term u of the definition of w takes in what of its wire has no part in the mask
  term_takes : (w : ℕ) (rhs : Operand) → D w ≡ some rhs → (u : Term) → Memᴰ u rhs → ShiftsOf u → (s : Operand) → D u.wire ≡ some s
      → (x : ℕ) → x < 2 ^ 64 → bit_and x (r u.wire) ≡ 0 → bit_and (apply_of (shift_at u.inner) x) (r w) ≡ 0
  term_takes w rhs e u m h s d x b z =
      let n : bit_and x (or_all (from_definition p c r u.wire) p.linears) ≡ 0
      = misses_right 64 x (or_all (from_root u.wire) (joined (rebuilds p c))) (or_all (from_definition p c r u.wire) p.linears) b (ap (bit_and x) (sym (is.sums u.wire (inlined_defines p c u.wire s d))) ∙ z) in
      let one = of_looked_up {P = λ (d : Definition). bit_and x (from_definition p c r u.wire d) ≡ 0} (misses_each (from_definition p c r u.wire) x b p.linears n) w rhs (inlined_defined p c w rhs e) in
      let here = all_at (λ (v : Term). bit_and x (from_term (r w) u.wire v) ≡ 0) rhs u (misses_each (from_term (r w) u.wire) x b rhs (rw (inlined_uncommitted p c w rhs e) at one)) m in
      (pulled-right (shift_at u.inner) (valid_at u.inner h.0) x (r w) b (is.words w)).1 (rw (eq-eqb u.wire u.wire refl) at here)

  -- where the mask is 0 every word is
  unmasked : (t : Term) → Covered t → (rhs : Operand) → D t.wire ≡ some rhs → (x : ℕ) → x < 2 ^ 64 → r t.wire ≡ 0 → carried t x ≡ 0
  unmasked t g rhs e x b z = g rhs e x b (ap (bit_and x) z ∙ and_zero_r x)

  -- ---- what is met has a mask

  abbrev Masked : ℕ → Type 0
  Masked v = r v ≡ 0 → ⊥

  met_masked : (n : ℕ) (t : Term) → Fits D n t → ((rhs : Operand) → D t.wire ≡ some rhs → carried t ones ≡ 0 → ⊥) → Covered t → All Masked (met D n t)
  met_masked zero t f a g = done
  met_masked (suc n) t f a g = step (λ u k b h. met_masked n u k b h) (D t.wire) refl f
    where
      one : ((u : Term) → Fits D n u → ((rhs : Operand) → D u.wire ≡ some rhs → carried u ones ≡ 0 → ⊥) → Covered u → All Masked (met D n u))
          → (rhs : Operand) → D t.wire ≡ some rhs → ShiftsOf t → (u : Term) → Memᴰ u rhs → ShiftsOf u
          → (x : PushInner) → folded t u ≡ x → DescendFits (λ v. Fits D n v) u.wire x → All Masked (descend (λ v. met D n v) u.wire x)
      one ih rhs e h u m k (Seq i o) q l =
          ih (under u.wire i o) l (λ s d. fold_alive t h u k i o q)
          (λ s d x b z. fold_seq t h u k i o q x b ∙ g rhs e (apply_of (shift_at u.inner) x) (shifted_lt (shift_at u.inner) (valid_at u.inner k.0) x b) (term_takes t.wire rhs e u m k s d x b z))
      one ih rhs e h u m k Zero q l = done
      one ih rhs e h u m k OverBudget q l = done

      step : ((u : Term) → Fits D n u → ((rhs : Operand) → D u.wire ≡ some rhs → carried u ones ≡ 0 → ⊥) → Covered u → All Masked (met D n u))
          → (o : Option Operand) → D t.wire ≡ o → FitsBy (λ u. Fits D n u) t o → All Masked (met_by (λ u. met D n u) t o)
      step ih none e k = done
      step ih (some rhs) e k =
          more (λ z. a rhs e (unmasked t g rhs e ones (lit< tt) z))
          (all_gather (λ (u : Term). descend (λ v. met D n v) u.wire (folded t u))
          (all_members rhs (λ u m. one ih rhs e k.0 u m (all_at ShiftsOf rhs u (inlined_shifts p c shifted t.wire rhs e) m) (folded t u) refl
          (all_at (λ (v : Term). DescendFits (λ y. Fits D n y) v.wire (folded t v)) rhs u k.1 m))))

  -- The outer shift of a term that names a defined wire is an identity, so a term of a rebuilt operand takes all ones to something.
  root_alive : (t : Term) → ShiftsOf t → is_identity t.outer ≡ true → carried t ones ≡ 0 → ⊥
  root_alive t h e z =
      let i = shift_at t.inner in
      let hi = valid_at t.inner h.0 in
      shift_alive i hi (sym (still (shift_at t.outer) (valid_at t.outer h.1) (eqb-true (shift_at t.outer).amount 0 e) (apply_of i ones) (shifted_lt i hi ones (lit< tt))) ∙ z)

  module _ (over : NeverOver p c) where
    -- THE THEOREM, one way: every definition that is met has a mask that is not 0
    pub met_has_mask : Single p → All Masked (all_met p c)
    unfolding all_met met_operand met_term
    met_has_mask single =
        all_gather (met_operand p c) (all_members (rebuilds p c) (λ o m. all_gather (met_term p c) (all_members o (λ t k.
        met_masked (depth p c) t (all_at (Fits D (depth p c)) o t (all_at (All (Fits D (depth p c))) (rebuilds p c) o over m) k)
        (λ rhs e. root_alive t (all_at ShiftsOf o t (all_at (All ShiftsOf) (rebuilds p c) o valid m) k)
        (all_at Lone o t (all_at (All Lone) (rebuilds p c) o (roots_of p c single.uses_single) m) k (inlined_defines p c t.wire rhs e)))
        (root_covered valid o m t k)))))
      where
        Lone : Term → Type 0
        Lone t = defines p.linears t.wire ≡ true → is_identity t.outer ≡ true

        valid : All (All ShiftsOf) (rebuilds p c)
        valid = roots_of p c shifted
