-- A mask that is not 0 is that of a wire which rebuilding comes to; and there is one system of masks only. Assumes nothing.
--
-- Both go up from a definition to those that name it. A chain of definitions that grows at its head is no longer than there are
-- definitions, so that comes to an end.
use mathlib.Core.Path.{◌≡◌, refl, sym, ap, ap₂, ◌∙◌}
use mathlib.Core.Logic.{◌↔◌}
use mathlib.Core.Bool.{Bool, true, false, cond}
use mathlib.Core.List.{List, ◌∷◌, Memᴰ}
use mathlib.Core.Option.{Option, some}
use Prim.Native.Nat.{ℕ, zero, suc, ◌+◌, ◌^◌, ◌<◌}
use native.Mathlib.Omega.{arith}
use lib.Dec.{eqb}
use lib.Bits.{bit_and, bit_or, and_zero_r, and_self}
use borrow.Author.Tests.{eqb-true, eqb-false, ne_eqb}
use Rattle.shift.specs.declared.Shift.{Shift}
use Rattle.shift.specs.Shifts.{shift_at, apply_of}
use Rattle.shift.proofs.Linear.{shifted_lt}
use Rattle.operand.specs.declared.PushInner.{PushInner}
use Rattle.operand.specs.declared.PushInner.TheVariants.{Seq, Zero, OverBudget}
use Rattle.operand.specs.Numbers.{Term, Operand}
use Rattle.alive.specs.Masks.{pulled}
use Rattle.alive.proofs.Ors.{misses_or}
use Rattle.alive.proofs.Pulls.{pulled-right}
use Rattle.lower.specs.Lists.{All, done, more, some_of, joined}
use Rattle.lower.specs.Model.{Definition, System, definition_of, defines}
use Rattle.lower.specs.Accepted.{ShiftsOf, Shifted, Single, Once, NoCircle}
use Rattle.lower.proofs.Alls.{all_join}
use Rattle.lower.proofs.Somes.{none_all, all_none}
use Rattle.commit_set.proofs.Members.{all_at}
use Rattle.shift.proofs.Numbers.{valid_at}
use Rattle.patch.specs.Expansion.{under, folded, descend, DescendFits, Fits, Within}
use Rattle.patch.specs.Patch.{inlined, depth, met_term, met_operand, rebuilds, all_met, NeverOver}
use Rattle.patch.proofs.Parts.{Which, is_true, is_false, which, lost, clash, all_each, all_members, all_ungather}
use Rattle.patch.proofs.Chains.{deep}
use Rattle.patch.proofs.Steady.{fits_opens, term_met}
use Rattle.patch.proofs.Definitions.{looks_up}
use Rattle.patch.proofs.NeverOver.{fits_shifts}
use Rattle.reach.specs.Alive.{or_all, carried}
use Rattle.reach.specs.Reach.{from_root, from_term, from_definition, IsReach}
use Rattle.reach.proofs.Joins.{misses_all, clears_pulled, fold_seq, fold_zero}
use Rattle.reach.proofs.Writing.{inlined_shifts}
use Rattle.reach.proofs.Meeting.{roots_of, inlined_defines, met_has_mask}

-- ---- chains

-- a chain of definitions that begins at v and has n links
data Chained (D : ℕ → Option Operand) : ℕ → ℕ → Type 0 where
  last : {v : ℕ} (rhs : Operand) → D v ≡ some rhs → Chained D zero v
  link : {n v : ℕ} (rhs : Operand) (u : Term) → D v ≡ some rhs → Memᴰ u rhs → Chained D n u.wire → Chained D (suc n) v

too_long : (D : ℕ → Option Operand) (n v : ℕ) → Within D n v → Chained D n v → ⊥
too_long D zero v h (last rhs e) = lost e h
too_long D (suc n) v h (link rhs u e m k) = too_long D n u.wire (all_at (λ (t : Term). Within D n t.wire) rhs u (h rhs e) m) k

starts : {D : ℕ → Option Operand} {n v : ℕ} → Chained D n v → (rhs : Operand) × (D v ≡ some rhs)
starts (last rhs e) = (rhs, e)
starts (link rhs u e m k) = (rhs, e)

-- one way of a condition or the other
put : (P : ℕ → Type 0) (b : Bool) {x y : ℕ} → (b ≡ true → P x) → (b ≡ false → P y) → P (cond b x y)
put P true f g = f refl
put P false f g = g refl

same : (b : Bool) (x y : ℕ) → (b ≡ false → x ≡ y) → cond b 0 x ≡ cond b 0 y
same true x y f = refl
same false x y f = f refl

or_same : {A : Type 0} (f g : A → ℕ) {l : List A} → All (λ (x : A). f x ≡ g x) l → or_all f l ≡ or_all g l
or_same f g done = refl
or_same f g (more h t) = ap₂ (λ (x y : ℕ). bit_or x y) h (or_same f g t)

module _ (p : System) (c : ℕ → Bool) (once : Once p.linears) (no_circle : NoCircle p) where
  abbrev D : ℕ → Option Operand
  D = inlined p c

  -- an uncommitted definition of the list is what is put in the place of its wire
  pub put_in : (d : Definition) → Memᴰ d p.linears → c d.dst ≡ false → D d.dst ≡ some d.rhs
  unfolding inlined
  put_in d m e = rw e (all_at (λ (x : Definition). definition_of p.linears x.dst ≡ some x.rhs) p.linears d (looks_up p.linears once) m)

  -- ---- there is one system of masks

  module _ (r q : ℕ → ℕ) (is : IsReach p c r) (js : IsReach p c q) where
    -- the masks of a wire agree where those of the definitions that name it do
    agrees : (v : ℕ) → defines p.linears v ≡ true → ((d : Definition) → Memᴰ d p.linears → c d.dst ≡ false → (u : Term) → Memᴰ u d.rhs → u.wire ≡ v → r d.dst ≡ q d.dst) → r v ≡ q v
    agrees v e f =
        is.sums v e
        ∙ ap (bit_or (or_all (from_root v) (joined (rebuilds p c)))) (or_same (from_definition p c r v) (from_definition p c q v)
        (all_members p.linears (λ d m. same (c d.dst) _ _ (λ e. or_same (from_term (r d.dst) v) (from_term (q d.dst) v) (all_members d.rhs (λ u k. term d m e u k (eqb u.wire v) refl))))))
        ∙ sym (js.sums v e)
      where
        term : (d : Definition) → Memᴰ d p.linears → c d.dst ≡ false → (u : Term) → Memᴰ u d.rhs → (b : Bool) → eqb u.wire v ≡ b
            → cond b (pulled (shift_at u.inner) (r d.dst)) 0 ≡ cond b (pulled (shift_at u.inner) (q d.dst)) 0
        term d m e u k true z = ap (pulled (shift_at u.inner)) (f d m e u k (eqb-true u.wire v z))
        term d m e u k false z = refl

    up : (k n : ℕ) → n + k ≡ depth p c → (v : ℕ) → Chained D n v → r v ≡ q v
    up zero n e v h = absurd (let z : n ≡ depth p c = omega arith in too_long D n v (rw z (deep p c no_circle v)) h)
    up (suc k) n e v h = let s = starts h in agrees v (inlined_defines p c v s.0 s.1) (λ d m f u l z. up k (suc n) (omega arith) d.dst (link d.rhs u (put_in d m f) l (rw z h)))

    -- THE THEOREM: where there is no circle the masks of the definitions are determined
    pub reach_only : (v : ℕ) → defines p.linears v ≡ true → r v ≡ q v
    reach_only v e = agrees v e (λ d m f u l z. up (depth p c) 0 (omega arith) d.dst (last d.rhs (put_in d m f)))

  -- ---- what rebuilding comes to

  data Reached : Term → Type 0 where
    root : (o : Operand) (t : Term) → Memᴰ o (rebuilds p c) → Memᴰ t o → Reached t
    next : (t : Term) (rhs : Operand) (u : Term) (i o : Shift) → Reached t → D t.wire ≡ some rhs → Memᴰ u rhs → folded t u ≡ Seq i o → Reached (under u.wire i o)

  module _ (over : NeverOver p c) where
    seq_at : (P : Term → Type 0) (w : ℕ) (x : PushInner) (i o : Shift) → x ≡ Seq i o → DescendFits P w x → P (under w i o)
    seq_at P w x i o e h = rw e at h

    -- nothing that is reached is over the budget
    reached_fits : {t : Term} → Reached t → Fits D (depth p c) t
    reached_fits (root o t m k) = all_at (Fits D (depth p c)) o t (all_at (All (Fits D (depth p c))) (rebuilds p c) o over m) k
    reached_fits (next t rhs u i o h e m q) =
        seq_at (Fits D (depth p c)) u.wire (folded t u) i o q
        (all_at (λ (v : Term). DescendFits (Fits D (depth p c)) v.wire (folded t v)) rhs u (fits_opens D (depth p c) (deep p c no_circle) t rhs e (reached_fits h)) m)

    below-fits : (t : Term) → Reached t → (rhs : Operand) → D t.wire ≡ some rhs → (u : Term) → Memᴰ u rhs → DescendFits (Fits D (depth p c)) u.wire (folded t u)
    below-fits t h rhs e u m =
        all_at (λ (v : Term). DescendFits (Fits D (depth p c)) v.wire (folded t v)) rhs u (fits_opens D (depth p c) (deep p c no_circle) t rhs e (reached_fits h)) m

    -- what is met below a term that is reached is met
    seq_met : (Q : ℕ → Type 0) (w : ℕ) (x : PushInner) (i o : Shift) → x ≡ Seq i o → All Q (descend (met_term p c) w x) → All Q (met_term p c (under w i o))
    seq_met Q w x i o e h = rw e at h

    rest_of : (Q : ℕ → Type 0) {x : ℕ} {l xs : List ℕ} → l ≡ x ∷ xs → All Q l → Q x × All Q xs
    rest_of Q e h = go (rw e at h)
      where
        go : {x : ℕ} {xs : List ℕ} → All Q (x ∷ xs) → Q x × All Q xs
        go (more a k) = (a, k)

    reached_met : (Q : ℕ → Type 0) → All Q (all_met p c) → {t : Term} → Reached t → All Q (met_term p c t)
    unfolding all_met met_operand
    reached_met Q h (root o t m k) =
        all_at (λ (v : Term). All Q (met_term p c v)) o t
        (all_ungather (met_term p c) o (all_at (λ (x : Operand). All Q (met_operand p c x)) (rebuilds p c) o (all_ungather (met_operand p c) (rebuilds p c) h) m)) k
    reached_met Q h (next t rhs u i o g e m q) =
        seq_met Q u.wire (folded t u) i o q
        (all_at (λ (v : Term). All Q (descend (met_term p c) v.wire (folded t v))) rhs u
        (all_ungather (λ (v : Term). descend (met_term p c) v.wire (folded t v)) rhs
        (rest_of Q ((term_met p c no_circle).met_more t rhs e) (reached_met Q h g)).1) m)

    -- a wire that is reached, and is no wire that stands, is met
    here_met : (Q : ℕ → Type 0) → All Q (all_met p c) → (t : Term) → Reached t → (rhs : Operand) → D t.wire ≡ some rhs → Q t.wire
    here_met Q h t g rhs e = (rest_of Q ((term_met p c no_circle).met_more t rhs e) (reached_met Q h g)).0

    module _ (shifted : Shifted p) (r : ℕ → ℕ) (is : IsReach p c r) where
      -- Where every term of the wire v that is reached clears y, y has no bit in the mask of v.
      abbrev Cleared : ℕ → ℕ → Type 0
      Cleared v y = (t : Term) → Reached t → t.wire ≡ v → carried t y ≡ 0

      -- by the masks of the definitions that name v
      misses : (v : ℕ) (rhs : Operand) → D v ≡ some rhs → (y : ℕ) → y < 2 ^ 64 → Cleared v y
          → ((d : Definition) → Memᴰ d p.linears → c d.dst ≡ false → (u : Term) → Memᴰ u d.rhs → u.wire ≡ v
          → bit_and (apply_of (shift_at u.inner) y) (r d.dst) ≡ 0) → bit_and y (r v) ≡ 0
      misses v rhs e y b f g =
          ap (bit_and y) (is.sums v (inlined_defines p c v rhs e))
          ∙ misses_or 64 y (or_all (from_root v) (joined (rebuilds p c))) (or_all (from_definition p c r v) p.linears) b
          (misses_all (from_root v) y b (all_join (λ (t : Term). bit_and y (from_root v t) ≡ 0) (rebuilds p c) (all_members (rebuilds p c) (λ o m. all_members o (λ t k.
          put (λ (x : ℕ). bit_and y x ≡ 0) (eqb t.wire v)
          (λ e. clears_pulled t (all_at ShiftsOf o t (all_at (All ShiftsOf) (rebuilds p c) o (roots_of p c shifted) m) k) y b (f t (root o t m k) (eqb-true t.wire v e)))
          (λ e. and_zero_r y))))))
          (misses_all (from_definition p c r v) y b (all_members p.linears (λ d m.
          put (λ (x : ℕ). bit_and y x ≡ 0) (c d.dst)
          (λ e. and_zero_r y)
          (λ e. misses_all (from_term (r d.dst) v) y b (all_members d.rhs (λ u k.
          put (λ (x : ℕ). bit_and y x ≡ 0) (eqb u.wire v)
          (λ z. (pulled-right (shift_at u.inner) (valid_at u.inner (all_at ShiftsOf d.rhs u (inlined_shifts p c shifted d.dst d.rhs (put_in d m e)) k).0) y (r d.dst) b (is.words d.dst)).0
          (g d m e u k (eqb-true u.wire v z)))
          (λ z. and_zero_r y)))))))

      -- what clears y at the wire of u clears it, moved, at the definition that u is a term of
      cleared_up : (v w : ℕ) (rhs : Operand) → D w ≡ some rhs → (u : Term) → Memᴰ u rhs → ShiftsOf u → u.wire ≡ v → (y : ℕ) → y < 2 ^ 64 → Cleared v y
          → Cleared w (apply_of (shift_at u.inner) y)
      cleared_up v w rhs e u m k z y b f t g q =
          let d : D t.wire ≡ some rhs = ap D q ∙ e in
          go d (folded t u) refl (below-fits t g rhs d u m)
        where
          h : ShiftsOf t
          h = fits_shifts D (depth p c) t (reached_fits g)

          go : D t.wire ≡ some rhs → (x : PushInner) → folded t u ≡ x → DescendFits (Fits D (depth p c)) u.wire x → carried t (apply_of (shift_at u.inner) y) ≡ 0
          go d (Seq i o) a l = sym (fold_seq t h u k i o a y b) ∙ f (under u.wire i o) (next t rhs u i o g d m a) z
          go d Zero a l = fold_zero t h u k a y b
          go d OverBudget a l = absurd l

      upward : (k n : ℕ) → n + k ≡ depth p c → (v : ℕ) → Chained D n v → (y : ℕ) → y < 2 ^ 64 → Cleared v y → bit_and y (r v) ≡ 0
      upward zero n e v h y b f = absurd (let z : n ≡ depth p c = omega arith in too_long D n v (rw z (deep p c no_circle v)) h)
      upward (suc k) n e v h y b f = let a = starts h in misses v a.0 a.1 y b f (λ d m g u l z.
          let s : ShiftsOf u = all_at ShiftsOf d.rhs u (inlined_shifts p c shifted d.dst d.rhs (put_in d m g)) l in
          upward k (suc n) (omega arith) d.dst (link d.rhs u (put_in d m g) l (rw z h)) (apply_of (shift_at u.inner) y)
          (shifted_lt (shift_at u.inner) (valid_at u.inner s.0) y b)
          (cleared_up v d.dst d.rhs (put_in d m g) u l s z y b f))

      -- a definition that is never met has the mask 0
      unmet_nought : (w : ℕ) (rhs : Operand) → D w ≡ some rhs → some_of (eqb w) (all_met p c) ≡ false → r w ≡ 0
      unmet_nought w rhs e f =
          sym (and_self (r w))
          ∙ upward (depth p c) 0 (omega arith) w (last rhs e) (r w) (is.words w)
          (λ t g q. absurd (eqb-false w t.wire (here_met (λ (x : ℕ). eqb w x ≡ false) (none_all (eqb w) (all_met p c) f) t g rhs (ap D q ∙ e)) (sym q)))

      -- THE THEOREM. An uncommitted definition is met exactly where its mask is not 0.
      pub met_masks : Single p → (w : ℕ) (rhs : Operand) → D w ≡ some rhs → some_of (eqb w) (all_met p c) ≡ true ↔ (r w ≡ 0 → ⊥)
      met_masks single w rhs e = (λ q. there q, λ n. step n (which (some_of (eqb w) (all_met p c))))
        where
          there : some_of (eqb w) (all_met p c) ≡ true → r w ≡ 0 → ⊥
          there q z = clash q (all_none (eqb w) (all_met p c) (all_each (λ x h. ne_eqb w x (λ k. h (ap r (sym k) ∙ z))) (met_has_mask p c shifted r is over single)))

          step : (r w ≡ 0 → ⊥) → Which (some_of (eqb w) (all_met p c)) → some_of (eqb w) (all_met p c) ≡ true
          step n (is_true q) = q
          step n (is_false q) = absurd (n (unmet_nought w rhs e q))
