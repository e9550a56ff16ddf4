-- An order of the definitions is a rank, a ranked system has no circle, and a definition stands no deeper than its rank.
-- Assumes nothing.
use mathlib.Core.Path.{◌≡◌, refl, sym, ap, ◌∙◌, subst}
use Prim.Native.Nat.{ℕ, zero, suc, ◌≤◌, ◌<◌}
use native.Mathlib.Omega.{arith}
use mathlib.Core.Bool.{Bool, true, false, cond, ◌||◌}
use mathlib.Core.List.Memᴰ
use mathlib.Core.List.{List, [], ◌∷◌, Memᴰ}
use mathlib.Core.Option.{some}
use lib.Dec.{eqb}
use lib.ListN.{length, get_or}
use borrow.Author.Tests.{eqb-true, eq-eqb}
use Rattle.shift.specs.declared.Shift.{Shift}
use Rattle.shift.specs.Shifts.{shift_at}
use Rattle.shift.proofs.Composes.{on_cond}
use Rattle.operand.specs.Numbers.{Term, Operand}
use Rattle.lower.specs.Lists.{All, done, more, some_of}
use Rattle.lower.specs.Model.{Definition, System, definition_of}
use Rattle.lower.specs.Accepted.{Reaches, NoCircle}
use Rattle.lower.specs.Accepted as Accepted
use Rattle.lower.proofs.Laws.{all_imp, all_map}
use Rattle.legraph.specs.Uses.{User, Use, uses_of, no_definition, rhs_of, dst_of, names}
use Rattle.commit_set.specs.declared.CommitSetCx.{CommitSetCx}
use Rattle.commit_set.specs.declared.Decision.{Decision}
use Rattle.commit_set.specs.declared.Decision.TheVariants.{Commit, Inline}
use Rattle.commit_set.specs.Runs.{join_all}
use Rattle.commit_set.specs.Decision.{below, context_by, context_of, contexts_of, commits, decide, shifts_of, Solves}
use Rattle.commit_set.specs.Orders.{Ranked, put, InOrder, place_of}
use Rattle.commit_set.proofs.Users.{all_users}

clash : {A : Type 0} {b : Bool} → b ≡ true → b ≡ false → A
clash e h = let z : ◌≡◌ {A = ℕ} 0 1 = cc in absurd (omega arith)

-- ---- orders

module _ (p : System) (e d : ℕ) (l : e < length p.linears) (m : d < length p.linears) (u : names p e d ≡ true) where
  placed : (xs : List ℕ) (marked : ℕ → Bool) → InOrder p marked xs → marked e ≡ false → marked d ≡ false → place_of xs e < place_of xs d
  unfolding InOrder place_of
  placed [] marked o he hd = clash (o d m) hd
  placed (x ∷ xs) marked o he hd = go (eqb d x) refl (eqb e x) refl (λ k q. placed xs (put marked x true) o.2 (rw k he) (rw q hd))
    where
      go : (a : Bool) → eqb d x ≡ a → (b : Bool) → eqb e x ≡ b → (eqb e x ≡ false → eqb d x ≡ false → place_of xs e < place_of xs d)
          → cond b 0 (suc (place_of xs e)) < cond a 0 (suc (place_of xs d))
      go true k b q f = clash (o.1 e l (ap (λ (y : ℕ). names p e y) (sym (eqb-true d x k)) ∙ u)) he
      go false k true q f = omega arith
      go false k false q f = omega (arith, f q k)

pub order_ranked : (p : System) (xs : List ℕ) → InOrder p (λ d. false) xs → Ranked p (place_of xs)
order_ranked p xs o = λ e d l m u. placed p e d l m u xs (λ d. false) o refl refl

-- ---- circles

some_member : (w : ℕ) (t : Term) (ts : List Term) → Memᴰ t ts → t.wire ≡ w → some_of (λ (x : Term). eqb x.wire w) ts ≡ true
some_member w t [] m e = absurd (Memᴰ.not-nil m)
some_member w t (u ∷ ts) (Memᴰ.head k) e = rw (eq-eqb u.wire w (sym (ap (λ (x : Term). x.wire) k) ∙ e))
some_member w t (u ∷ ts) (Memᴰ.tail m) e = rw (some_member w t ts m e) (or_true (eqb u.wire w))
  where
    or_true : (b : Bool) → (b || true) ≡ true
    or_true true = refl
    or_true false = refl

-- where a wire's definition stands
pub found : (ds : List Definition) (w : ℕ) (rhs : Operand) → definition_of ds w ≡ some rhs
    → (d : ℕ) × (d < length ds) × ((get_or ds d no_definition).dst ≡ w) × ((get_or ds d no_definition).rhs ≡ rhs)
found [] w rhs e = let z : ◌≡◌ {A = ℕ} 0 1 = cc in absurd (omega arith)
found (x ∷ xs) w rhs e = go (eqb w x.dst) refl e (λ h. found xs w rhs h)
  where
    go : (b : Bool) → eqb w x.dst ≡ b → cond b (some x.rhs) (definition_of xs w) ≡ some rhs
        → (definition_of xs w ≡ some rhs → (d : ℕ) × (d < length xs) × ((get_or xs d no_definition).dst ≡ w) × ((get_or xs d no_definition).rhs ≡ rhs))
        → (d : ℕ) × (d < length (x ∷ xs)) × ((get_or (x ∷ xs) d no_definition).dst ≡ w) × ((get_or (x ∷ xs) d no_definition).rhs ≡ rhs)
    go true k h f = (0, omega arith, sym (eqb-true w x.dst k), cc)
    go false k h f = let r = f h in (suc r.0, omega (arith, r.1), r.2, r.3)

module _ (p : System) (rank : ℕ → ℕ) (ranked : Ranked p rank) where
  climbs : {v w : ℕ} → Reaches p v w
      → (d : ℕ) × (d < length p.linears) × (dst_of p d ≡ v) × ((e : ℕ) → e < length p.linears → dst_of p e ≡ w → rank d < rank e)
  climbs (Accepted.names {v} rhs t h m) =
      let r = found p.linears v rhs h in
      (r.0, r.1, r.2, λ e l k. ranked r.0 e r.1 l (some_member (dst_of p e) t (rhs_of p r.0) (subst (λ (x : Operand). Memᴰ t x) (sym r.3) m) (sym k)))
  climbs (Accepted.through a b) =
      let r = climbs a in
      let q = climbs b in
      (r.0, r.1, r.2, λ e l k. omega (arith, r.3 q.0 q.1 q.2, q.3 e l k))

  pub no_circle : NoCircle p
  no_circle = λ w c. let r = climbs c in omega (arith, r.3 r.0 r.1 r.2)

-- ---- depth

-- the terms of a definition so decided stand no deeper than n
abbrev pub Shallow : ℕ → Decision → Type 0
Shallow n Commit = Unit
Shallow n (Inline c) = c.depth < n

below_depth : (n : ℕ) (x : Decision) (s : Shift) → Shallow n x → (below x s).depth ≤ n
below_depth n Commit s h = omega arith
below_depth n (Inline c) s h = omega arith

depth_all : (n : ℕ) (cs : List CommitSetCx) → All (λ (c : CommitSetCx). c.depth ≤ n) cs → (join_all cs).depth ≤ n
unfolding join_all
depth_all n [] done = omega arith
depth_all n (c ∷ cs) (more h k) = omega (arith, h, depth_all n cs k)

module _ (p : System) (st : ℕ → Decision) where
  -- where the definitions that name d stand above depth n, d stands no deeper than n
  pub depth_uses : (n d : ℕ) → ((e : ℕ) → e < length p.linears → names p e d ≡ true → Shallow n (st e)) → (join_all (contexts_of p st d)).depth ≤ n
  depth_uses n d h =
      depth_all n (contexts_of p st d)
      (all_map (λ (c : CommitSetCx). c.depth ≤ n) (context_of st) (uses_of p (dst_of p d))
      (all_imp (λ (u : Use) k. k (shift_at u.shift)) (uses_of p (dst_of p d))
      (all_users (λ (u : User). (s : Shift) → (context_by st u s).depth ≤ n) (dst_of p d) p (λ s. omega arith) (λ e l m s. below_depth n (st e) s (h e l m)))))

pub decide_shallow : (slots n : ℕ) (cs : List CommitSetCx) (ss : List Shift) → (join_all cs).depth < n → Shallow n (decide slots cs ss)
unfolding decide
decide_shallow slots n cs ss h = on_cond (Shallow n) (commits slots cs ss) (λ e. tt) (λ e. h)

-- in a solution no definition stands deeper than its rank
module _ (slots : ℕ) (p : System) (rank : ℕ → ℕ) (ranked : Ranked p rank) (st : ℕ → Decision) (s : Solves slots p st) where
  up_to : (n d : ℕ) → rank d < n → d < length p.linears → (join_all (contexts_of p st d)).depth ≤ rank d
  up_to zero d h l = absurd (omega arith)
  up_to (suc n) d h l =
      depth_uses p st (rank d) d (λ e m u.
      rw (s e m)
      (decide_shallow slots (rank d) (contexts_of p st e) (shifts_of (rhs_of p e)) (omega (arith, up_to n e (omega (arith, ranked e d m l u)) m, ranked e d m l u))))

  pub depth_rank : (d : ℕ) → d < length p.linears → (join_all (contexts_of p st d)).depth ≤ rank d
  depth_rank d l = up_to (suc (rank d)) d (omega arith) l
