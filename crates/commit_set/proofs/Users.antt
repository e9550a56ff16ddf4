-- Who the users of a wire are: other constraints, and the definitions with a term that names it. Assumes nothing.
use mathlib.Core.Path.{◌≡◌, refl, subst}
use Prim.Native.Nat.{ℕ, suc, ◌+◌, ◌<◌}
use native.Mathlib.Omega.{arith}
use mathlib.Core.Bool.{Bool, true, false, cond, ◌||◌}
use mathlib.Core.List.{List, [], ◌∷◌, map}
use lib.Dec.{eqb}
use lib.ListN.{length, get_or}
use Rattle.operand.specs.Numbers.{Term}
use Rattle.lower.specs.Lists.{All, done, more, some_of, joined}
use Rattle.lower.specs.Model.{Definition, System, row_operands}
use Rattle.lower.proofs.Laws.{all_both}
use Rattle.legraph.specs.Uses.{User, constraint, definition, Use, use_by, uses_in, uses_from, uses_of, no_definition, rhs_of}

pub map_all : {A B : Type 0} (f g : A → B) (l : List A) → All (λ (x : A). f x ≡ g x) l → map f l ≡ map g l
map_all f g [] done = refl
map_all f g (x ∷ l) (more e h) = rw (e, map_all f g l h)

module _ (P : User → Type 0) (w : ℕ) where
  abbrev named : List Term → Bool
  named ts = some_of (λ (t : Term). eqb t.wire w) ts

  users_in : (u : User) (ts : List Term) → (named ts ≡ true → P u) → All (λ (x : Use). P x.user) (uses_in u w ts)
  unfolding uses_in
  users_in u [] h = done
  users_in u (t ∷ ts) h = go (eqb t.wire w) h (λ k. users_in u ts k)
    where
      go : (b : Bool) → ((b || named ts) ≡ true → P u) → ((named ts ≡ true → P u) → All (λ (x : Use). P x.user) (uses_in u w ts))
          → All (λ (x : Use). P x.user) (cond b (use_by u t ∷ uses_in u w ts) (uses_in u w ts))
      go true k f = more (k refl) (f (λ e. k refl))
      go false k f = f k

  users_from : (k : ℕ) (ds : List Definition) → ((i : ℕ) → i < length ds → named (get_or ds i no_definition).rhs ≡ true → P (definition (k + i)))
      → All (λ (x : Use). P x.user) (uses_from k w ds)
  unfolding uses_from
  users_from k [] h = done
  users_from k (d ∷ ds) h =
      all_both (λ (x : Use). P x.user) (users_in (definition k) d.rhs (λ e. subst (λ (n : ℕ). P (definition n)) (omega arith) (h 0 (omega arith) e)))
      (users_from (suc k) ds (λ i l e. subst (λ (n : ℕ). P (definition n)) (omega arith) (h (suc i) (omega arith) e)))

  -- what holds of other constraints, and of the definitions that name w, holds of all users of w
  pub all_users : (p : System) → P constraint → ((e : ℕ) → e < length p.linears → named (rhs_of p e) ≡ true → P (definition e))
      → All (λ (x : Use). P x.user) (uses_of p w)
  unfolding uses_of
  all_users p c h =
      all_both (λ (x : Use). P x.user) (users_in constraint (joined (row_operands p)) (λ e. c))
      (users_from 0 p.linears (λ i l e. subst (λ (n : ℕ). P (definition n)) (omega arith) (h i l e)))
