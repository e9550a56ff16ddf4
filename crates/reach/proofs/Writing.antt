-- A term that names an uncommitted definition is expanded to nothing exactly where its shifts clear the mask of the wire. Assumes nothing.
use mathlib.Core.Path.{◌≡◌, refl, sym, ◌∙◌}
use mathlib.Core.Logic.{◌↔◌}
use mathlib.Core.Bool.{Bool}
use mathlib.Core.List.{List, [], ◌∷◌, ◌++◌}
use mathlib.Core.Option.{Option, none, some}
use Prim.Native.Nat.{ℕ, zero, suc, ◌^◌, ◌<◌}
use native.Mathlib.Omega.{arith}
use lib.Dec.{lit<}
use lib.ListN.{length}
use Rattle.shift.specs.Shifts.{shift_at}
use Rattle.shift.proofs.Linear.{shifted_lt}
use Rattle.operand.specs.declared.PushInner.{PushInner}
use Rattle.operand.specs.declared.PushInner.TheVariants.{Seq, Zero, OverBudget}
use Rattle.operand.specs.Numbers.{Term, Operand}
use Rattle.alive.specs.Masks.{ones}
use Rattle.lower.specs.Lists.{All, done, more}
use Rattle.lower.specs.Model.{Definition, System, definition_of, definition_operands}
use Rattle.lower.specs.Accepted.{ShiftsOf, Shifted, NoCircle}
use Rattle.lower.proofs.Alls.{all_unjoin, all_unmap}
use Rattle.commit_set.proofs.Members.{all_terms}
use Rattle.shift.proofs.Numbers.{valid_at}
use Rattle.patch.specs.Lists.{gather}
use Rattle.patch.specs.Expansion.{under, folded, descend, DescendFits, below, BelowFits, expand_by, expand, FitsBy, Fits, Within}
use Rattle.patch.specs.Patch.{inlined, depth, expand_term}
use Rattle.patch.proofs.Parts.{lost, all_each, all_three}
use Rattle.patch.proofs.Chains.{deep, inlined_defined}
use Rattle.patch.proofs.Definitions.{of_looked_up}
use Rattle.reach.specs.Alive.{or_all, carried, through, alive_by, alive, IsAlive, alive_wire}
use Rattle.reach.proofs.Joins.{or_all_lt, clears_all, clears_each, carried_moves, fold_seq, fold_zero, fold_alive}

-- ---- lists that are empty

first_none : {A : Type 0} (a b : List A) → a ++ b ≡ [] → (a ≡ []) × (b ≡ [])
first_none [] b e = (refl, e)
first_none (x ∷ xs) b e = let z : ◌≡◌ {A = ℕ} 0 1 = cc in absurd (omega arith)

one_none : {A : Type 0} {x : A} → x ∷ [] ≡ [] → ⊥
one_none e = let z : ◌≡◌ {A = ℕ} 0 1 = cc in omega arith

module _ {A B : Type 0} (f : A → List B) where
  gather-each : (l : List A) → gather f l ≡ [] → All (λ (x : A). f x ≡ []) l
  gather-each [] e = done
  gather-each (x ∷ xs) e = let n = first_none (f x) (gather f xs) e in more n.0 (gather-each xs n.1)

  gather_none : {l : List A} → All (λ (x : A). f x ≡ []) l → gather f l ≡ []
  gather_none done = refl
  gather_none (more h t) = rw (h, gather_none t)

module _ (D : ℕ → Option Operand) (sound : (w : ℕ) (rhs : Operand) → D w ≡ some rhs → All ShiftsOf rhs) where
  -- ---- the masks are words

  through_lt : (a : ℕ → ℕ) → ((w : ℕ) → a w < 2 ^ 64) → (u : Term) → ShiftsOf u → through a u < 2 ^ 64
  through_lt a h u k = shifted_lt (shift_at u.inner) (valid_at u.inner k.0) (a u.wire) (h u.wire)

  pub alive_lt : (n w : ℕ) → alive D n w < 2 ^ 64
  alive_lt zero w = lit< tt
  alive_lt (suc n) w = step (λ v. alive_lt n v) (D w) refl
    where
      step : ((v : ℕ) → alive D n v < 2 ^ 64) → (o : Option Operand) → D w ≡ o → alive_by (λ v. alive D n v) o < 2 ^ 64
      step ih none e = lit< tt
      step ih (some rhs) e = or_all_lt (through (λ v. alive D n v)) (all_each (λ u k. through_lt (λ v. alive D n v) ih u k) (sound w rhs e))

  -- ---- what is written, and what the mask says

  abbrev Tells : ℕ → Term → Type 0
  Tells n t = expand D n t ≡ [] ↔ carried t (alive D n t.wire) ≡ 0

  module _ (n : ℕ) (ih : (t : Term) → Fits D n t → (carried t ones ≡ 0 → ⊥) → Tells n t) (t : Term) (h : ShiftsOf t) where
    abbrev writes : Term → List Term
    writes u = descend (λ v. expand D n v) u.wire (folded t u)

    abbrev comes : Term → ℕ
    comes u = through (λ v. alive D n v) u

    one : (u : Term) → ShiftsOf u → (x : PushInner) → folded t u ≡ x → DescendFits (λ v. Fits D n v) u.wire x
        → descend (λ v. expand D n v) u.wire x ≡ [] ↔ carried t (comes u) ≡ 0
    one u k (Seq a b) e f =
        let i = ih (under u.wire a b) f (fold_alive t h u k a b e) in
        let s = fold_seq t h u k a b e (alive D n u.wire) (alive_lt n u.wire) in
        (λ q. sym s ∙ i.0 q, λ q. i.1 (s ∙ q))
    one u k Zero e f = (λ q. fold_zero t h u k e (alive D n u.wire) (alive_lt n u.wire), λ q. refl)
    one u k OverBudget e f = absurd f

    opened : (rhs : Operand) → All ShiftsOf rhs → BelowFits (λ v. Fits D n v) t rhs
        → below (λ v. expand D n v) t rhs ≡ [] ↔ carried t (or_all (through (λ v. alive D n v)) rhs) ≡ 0
    opened rhs k f = (
      λ q. clears_all comes (carried_moves t h) words (all_three (λ u a b e. (one u a (folded t u) refl b).0 e) k f (gather-each writes rhs q)),
      λ q. gather_none writes (all_three (λ u a b e. (one u a (folded t u) refl b).1 e) k f (clears_each comes (carried_moves t h) words q)),
    )
      where
        words : All (λ (u : Term). comes u < 2 ^ 64) rhs
        words = all_each (λ u a. through_lt (λ v. alive D n v) (alive_lt n) u a) k

  tells : (n : ℕ) (t : Term) → Fits D n t → (carried t ones ≡ 0 → ⊥) → Tells n t
  tells zero t f a = (λ q. absurd (one_none q), λ q. absurd (a q))
  tells (suc n) t f a = step (λ u k b. tells n u k b) (D t.wire) refl f
    where
      step : ((u : Term) → Fits D n u → (carried u ones ≡ 0 → ⊥) → Tells n u) → (o : Option Operand) → D t.wire ≡ o → FitsBy (λ u. Fits D n u) t o
          → expand_by (λ u. expand D n u) t o ≡ [] ↔ carried t (alive_by (λ v. alive D n v) o) ≡ 0
      step ih none e k = (λ q. absurd (one_none q), λ q. absurd (a q))
      step ih (some rhs) e k = opened n ih t k.0 rhs (sound t.wire rhs e) k.1

  -- A term that names what is put in its place. (One that stands is written whatever its shifts are, also two that clear every word.)
  pub tells_opened : (n : ℕ) (t : Term) (rhs : Operand) → D t.wire ≡ some rhs → Fits D (suc n) t → Tells (suc n) t
  tells_opened n t rhs e f = rw e (step (rw e at f))
    where
      step : FitsBy (λ u. Fits D n u) t (some rhs) → below (λ u. expand D n u) t rhs ≡ [] ↔ carried t (or_all (through (λ v. alive D n v)) rhs) ≡ 0
      step k = opened n (λ u l b. tells n u l b) t k.0 rhs (sound t.wire rhs e) k.1

-- ---- the bound changes nothing

module _ (D : ℕ → Option Operand) where
  or_same : (a b : ℕ → ℕ) {rhs : Operand} → All (λ (u : Term). a u.wire ≡ b u.wire) rhs → or_all (through a) rhs ≡ or_all (through b) rhs
  or_same a b done = refl
  or_same a b (more h t) = rw (h, or_same a b t)

  alive_steady : (n w : ℕ) → Within D n w → alive D (suc n) w ≡ alive D n w
  alive_steady zero w h = rw h
  alive_steady (suc n) w h = step (λ v k. alive_steady n v k) (D w) refl
    where
      step : ((v : ℕ) → Within D n v → alive D (suc n) v ≡ alive D n v) → (o : Option Operand) → D w ≡ o
          → alive_by (λ v. alive D (suc n) v) o ≡ alive_by (λ v. alive D n v) o
      step ih none e = refl
      step ih (some rhs) e = or_same (λ v. alive D (suc n) v) (λ v. alive D n v) (all_each (λ u k. ih u.wire k) (h rhs e))

  pub is_alive : (n : ℕ) → ((w : ℕ) → Within D n w) → IsAlive D (alive D n)
  is_alive n whole = record { alive_stands = λ w e. stands n w e; alive_opens = λ w rhs e. opens n whole w rhs e }
    where
      stands : (n w : ℕ) → D w ≡ none → alive D n w ≡ ones
      stands zero w e = refl
      stands (suc n) w e = rw e

      opens : (n : ℕ) → ((w : ℕ) → Within D n w) → (w : ℕ) (rhs : Operand) → D w ≡ some rhs → alive D n w ≡ or_all (through (alive D n)) rhs
      opens zero whole w rhs e = absurd (lost e (whole w))
      opens (suc n) whole w rhs e = rw e (or_same (λ v. alive D n v) (λ v. alive D (suc n) v) (all_each (λ u k. sym (alive_steady n u.wire k)) (whole w rhs e)))

  -- there are no other masks
  pub only_alive : (a : ℕ → ℕ) → IsAlive D a → (n w : ℕ) → Within D n w → a w ≡ alive D n w
  only_alive a is zero w h = is.alive_stands w h
  only_alive a is (suc n) w h = step (λ v k. only_alive a is n v k) (D w) refl
    where
      step : ((v : ℕ) → Within D n v → a v ≡ alive D n v) → (o : Option Operand) → D w ≡ o → a w ≡ alive_by (λ v. alive D n v) o
      step ih none e = is.alive_stands w e
      step ih (some rhs) e = is.alive_opens w rhs e ∙ or_same a (λ v. alive D n v) (all_each (λ u k. ih u.wire k) (h rhs e))

-- ---- a system

module _ (p : System) (c : ℕ → Bool) where
  -- the terms of what is put in a wire's place have valid shifts
  pub inlined_shifts : Shifted p → (w : ℕ) (rhs : Operand) → inlined p c w ≡ some rhs → All ShiftsOf rhs
  unfolding definition_operands
  inlined_shifts shifted w rhs e =
      of_looked_up {P = λ (d : Definition). All ShiftsOf d.rhs}
      (all_unmap (All ShiftsOf) (λ (d : Definition). d.rhs) p.linears (all_unjoin ShiftsOf (definition_operands p) (all_terms ShiftsOf p shifted)))
      w rhs (inlined_defined p c w rhs e)

  some_depth : (w : ℕ) (rhs : Operand) → inlined p c w ≡ some rhs → (n : ℕ) → depth p c ≡ n → (m : ℕ) × (n ≡ suc m)
  unfolding depth
  some_depth w rhs e zero k = absurd (go p.linears k (inlined_defined p c w rhs e))
    where
      go : (ds : List Definition) → length ds ≡ 0 → definition_of ds w ≡ some rhs → ⊥
      go [] l q = lost q refl
      go (d ∷ ds) l q = omega arith
  some_depth w rhs e (suc n) k = (n, refl)

  -- THE THEOREM. A term that names an uncommitted definition is expanded to nothing exactly where its shifts clear the mask of its wire.
  pub term_writes : Shifted p → (t : Term) (rhs : Operand) → inlined p c t.wire ≡ some rhs → Fits (inlined p c) (depth p c) t
      → expand_term p c t ≡ [] ↔ carried t (alive_wire p c t.wire) ≡ 0
  unfolding expand_term alive_wire
  term_writes shifted t rhs e f =
      let m = some_depth t.wire rhs e (depth p c) refl in
      let q : depth p c ≡ suc m.0 = m.1 in
      rw q (tells_opened (inlined p c) (inlined_shifts shifted) m.0 t rhs e (rw q at f))

  module _ (no_circle : NoCircle p) where
    pub wire_alive : IsAlive (inlined p c) (alive_wire p c)
    unfolding alive_wire
    wire_alive = is_alive (inlined p c) (depth p c) (deep p c no_circle)

    pub alive_only : (a : ℕ → ℕ) → IsAlive (inlined p c) a → (w : ℕ) → a w ≡ alive_wire p c w
    unfolding alive_wire
    alive_only a is w = only_alive (inlined p c) a is (depth p c) w (deep p c no_circle w)

    -- the same, of any masks that are as they should be
    pub masks_tell : (a : ℕ → ℕ) → IsAlive (inlined p c) a → Shifted p → (t : Term) (rhs : Operand) → inlined p c t.wire ≡ some rhs → Fits (inlined p c) (depth p c) t
        → expand_term p c t ≡ [] ↔ carried t (a t.wire) ≡ 0
    masks_tell a is shifted t rhs e f = rw (alive_only a is t.wire) (term_writes shifted t rhs e f)
