-- What an accepted system says of a term of another constraint and of a definition, and the uses that such terms are. Assumes nothing.
use mathlib.Core.Path.{◌≡◌, refl, sym, ap, ◌∙◌, subst}
use Prim.Native.Nat.{ℕ, zero, suc, ◌+◌, ◌<◌}
use native.Mathlib.Omega.{arith}
use mathlib.Core.Bool.{Bool, true, false, cond, ◌||◌}
use mathlib.Core.List.Memᴰ
use mathlib.Core.List.{List, [], ◌∷◌, ◌++◌, Memᴰ}
use lib.Dec.{eqb}
use lib.ListN.{length, get_or}
use borrow.Author.Tests.{eq-eqb}
use Rattle.operand.specs.Numbers.{Term}
use Rattle.lower.specs.Lists.{All, more, joined}
use Rattle.lower.specs.Model.{Definition, System, row_operands, definition_operands, terms_of, defines}
use Rattle.lower.specs.Accepted.{ShiftsOf, Shifted, is_identity, Single}
use Rattle.lower.proofs.Laws.{all_left, all_right}
use Rattle.lower.proofs.Alls.{all_join, all_unjoin, all_unmap}
use Rattle.legraph.specs.Uses.{User, constraint, definition, use_by, uses_in, uses_from, uses_of, no_definition, rhs_of, dst_of}

-- ---- each and some

pub all_at : {A : Type 0} (P : A → Type 0) (l : List A) (x : A) → All P l → Memᴰ x l → P x
all_at P [] x h m = absurd (Memᴰ.not-nil m)
all_at P (y ∷ l) x (more h k) (Memᴰ.head e) = subst P (sym e) h
all_at P (y ∷ l) x (more h k) (Memᴰ.tail m) = all_at P l x k m

pub all_get : {A : Type 0} (P : A → Type 0) (l : List A) (i : ℕ) (z : A) → All P l → i < length l → P (get_or l i z)
all_get P [] i z h l = absurd (omega arith)
all_get P (x ∷ xs) zero z (more h k) l = h
all_get P (x ∷ xs) (suc i) z (more h k) l = all_get P xs i z k (omega arith)

module _ (P : Term → Type 0) (p : System) where
  pub all_roots : All P (terms_of p) → All P (joined (row_operands p))
  all_roots h = all_join P (row_operands p) (all_left (All P) (row_operands p) (definition_operands p) (all_unjoin P (row_operands p ++ definition_operands p) h))

  pub all_terms : All P (terms_of p) → All P (joined (definition_operands p))
  all_terms h = all_join P (definition_operands p) (all_right (All P) (row_operands p) (definition_operands p) (all_unjoin P (row_operands p ++ definition_operands p) h))

  pub all_rhs : (e : ℕ) → e < length p.linears → All P (joined (definition_operands p)) → All P (rhs_of p e)
  unfolding definition_operands
  all_rhs e l h =
      all_get (λ (d : Definition). All P d.rhs) p.linears e no_definition
      (all_unmap (All P) (λ (d : Definition). d.rhs) p.linears (all_unjoin P (definition_operands p) h)) l

or_true : (b : Bool) → (b || true) ≡ true
or_true true = refl
or_true false = refl

pub defines_it : (ds : List Definition) (d : ℕ) → d < length ds → defines ds (get_or ds d no_definition).dst ≡ true
defines_it [] d l = absurd (omega arith)
defines_it (x ∷ ds) zero l = rw (eq-eqb x.dst x.dst refl)
defines_it (x ∷ ds) (suc d) l = rw (defines_it ds d (omega arith)) (or_true (eqb (get_or ds d no_definition).dst x.dst))

-- ---- outer shifts and valid shifts

module _ (p : System) where
  pub root_single : Single p → (t : Term) (d : ℕ) → Memᴰ t (joined (row_operands p)) → d < length p.linears → t.wire ≡ dst_of p d → is_identity t.outer ≡ true
  root_single s t d m l e =
      all_at (λ (t : Term). defines p.linears t.wire ≡ true → is_identity t.outer ≡ true) (joined (row_operands p)) t
      (all_roots (λ (t : Term). defines p.linears t.wire ≡ true → is_identity t.outer ≡ true) p s.uses_single) m
      (ap (defines p.linears) e ∙ defines_it p.linears d l)

  pub term_single : Single p → (t : Term) (e : ℕ) → e < length p.linears → Memᴰ t (rhs_of p e) → is_identity t.outer ≡ true
  term_single s t e l m =
      all_at (λ (t : Term). is_identity t.outer ≡ true) (rhs_of p e) t
      (all_rhs (λ (t : Term). is_identity t.outer ≡ true) p e l s.definitions_single) m

  pub root_shifted : Shifted p → (t : Term) → Memᴰ t (joined (row_operands p)) → ShiftsOf t
  root_shifted s t m = all_at ShiftsOf (joined (row_operands p)) t (all_roots ShiftsOf p s) m

  pub term_shifted : Shifted p → (t : Term) (e : ℕ) → e < length p.linears → Memᴰ t (rhs_of p e) → ShiftsOf t
  term_shifted s t e l m = all_at ShiftsOf (rhs_of p e) t (all_rhs ShiftsOf p e l (all_terms ShiftsOf p s)) m

-- ---- uses

module _ (w : ℕ) (t : Term) (n : t.wire ≡ w) where
  in_uses : (u : User) (ts : List Term) → Memᴰ t ts → Memᴰ (use_by u t) (uses_in u w ts)
  unfolding uses_in
  in_uses u [] m = absurd (Memᴰ.not-nil m)
  in_uses u (x ∷ ts) (Memᴰ.head e) = rw (eq-eqb x.wire w (sym (ap (λ (y : Term). y.wire) e) ∙ n)) (Memᴰ.head (ap (use_by u) e))
  in_uses u (x ∷ ts) (Memᴰ.tail m) = go (eqb x.wire w) (in_uses u ts m)
    where
      go : (b : Bool) → Memᴰ (use_by u t) (uses_in u w ts) → Memᴰ (use_by u t) (cond b (use_by u x ∷ uses_in u w ts) (uses_in u w ts))
      go true h = Memᴰ.tail h
      go false h = h

  in_from : (k : ℕ) (ds : List Definition) (i : ℕ) → i < length ds → Memᴰ t (get_or ds i no_definition).rhs → Memᴰ (use_by (definition (k + i)) t) (uses_from k w ds)
  unfolding uses_from
  in_from k [] i l m = absurd (omega arith)
  in_from k (d ∷ ds) zero l m =
      Memᴰ.append_left (uses_from (suc k) w ds)
      (subst (λ (j : ℕ). Memᴰ (use_by (definition j) t) (uses_in (definition k) w d.rhs)) (omega arith) (in_uses (definition k) d.rhs m))
  in_from k (d ∷ ds) (suc i) l m =
      Memᴰ.append_right (uses_in (definition k) w d.rhs)
      (subst (λ (j : ℕ). Memᴰ (use_by (definition j) t) (uses_from (suc k) w ds)) (omega arith) (in_from (suc k) ds i (omega arith) m))

  pub use_root : (p : System) → Memᴰ t (joined (row_operands p)) → Memᴰ (use_by constraint t) (uses_of p w)
  unfolding uses_of
  use_root p m = Memᴰ.append_left (uses_from 0 w p.linears) (in_uses constraint (joined (row_operands p)) m)

  pub use_term : (p : System) (e : ℕ) → e < length p.linears → Memᴰ t (rhs_of p e) → Memᴰ (use_by (definition e) t) (uses_of p w)
  unfolding uses_of
  use_term p e l m =
      Memᴰ.append_right (uses_in constraint w (joined (row_operands p)))
      (subst (λ (j : ℕ). Memᴰ (use_by (definition j) t) (uses_from 0 w p.linears)) (omega arith) (in_from 0 p.linears e l m))
