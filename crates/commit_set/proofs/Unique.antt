-- A system without circles has at most one solution, and deciding each definition after all that name it ends in it.
-- Assumes nothing.
use mathlib.Core.Path.{◌≡◌, refl, sym, ap, ◌∙◌}
use Prim.Native.Nat.{ℕ, zero, suc, ◌<◌}
use native.Mathlib.Omega.{arith}
use mathlib.Core.Bool.{Bool, true, false}
use mathlib.Core.List.{List}
use lib.ListN.{length}
use lib.Dec.{eqb}
use borrow.Author.Tests.{eqb-true, eqb-false}
use Rattle.shift.specs.declared.Shift.{Shift}
use Rattle.shift.specs.Shifts.{shift_at}
use Rattle.lower.specs.Model.{System}
use Rattle.lower.proofs.Laws.{all_imp}
use Rattle.legraph.specs.Uses.{User, Use, uses_of, rhs_of, dst_of, names}
use Rattle.commit_set.specs.declared.CommitSetCx.{CommitSetCx}
use Rattle.commit_set.specs.declared.Decision.{Decision}
use Rattle.commit_set.specs.Decision.{below, context_by, context_of, contexts_of, shifts_of, decide, decide_at, Solves}
use Rattle.commit_set.specs.Orders.{Ranked}
use Rattle.commit_set.proofs.Users.{map_all, all_users}

module _ (p : System) (st st' : ℕ → Decision) where
  -- States that agree on the definitions that name d have the same contexts on d's uses, and give d the same answer.
  pub contexts_same : (d : ℕ) → ((e : ℕ) → e < length p.linears → names p e d ≡ true → st e ≡ st' e) → contexts_of p st d ≡ contexts_of p st' d
  contexts_same d h =
      map_all (context_of st) (context_of st') (uses_of p (dst_of p d))
      (all_imp (λ (u : Use) k. k (shift_at u.shift)) (uses_of p (dst_of p d))
      (all_users (λ (u : User). (s : Shift) → context_by st u s ≡ context_by st' u s) (dst_of p d) p (λ s. refl)
      (λ e l n s. ap (λ (x : Decision). below x s) (h e l n))))

  pub decide-same : (slots d : ℕ) → ((e : ℕ) → e < length p.linears → names p e d ≡ true → st e ≡ st' e) → decide_at slots p st d ≡ decide_at slots p st' d
  decide-same slots d h = ap (λ (cs : List CommitSetCx). decide slots cs (shifts_of (rhs_of p d))) (contexts_same d h)

-- THE THEOREM. Two solutions of a system without circles agree.
module _ (slots : ℕ) (p : System) (rank : ℕ → ℕ) (ranked : Ranked p rank) (st st' : ℕ → Decision) (s : Solves slots p st) (s' : Solves slots p st') where
  up_to : (n d : ℕ) → rank d < n → d < length p.linears → st d ≡ st' d
  up_to zero d h l = absurd (omega arith)
  up_to (suc n) d h l = s d l ∙ decide-same p st st' slots d (λ e m u. up_to n e (omega (arith, ranked e d m l u)) m) ∙ sym (s' d l)

  pub unique : (d : ℕ) → d < length p.linears → st d ≡ st' d
  unique d l = up_to (suc (rank d)) d (omega arith) l

-- How a program comes to a solution: what holds once the definitions of which `done` says so have been decided.
pub record Taken (slots : ℕ) (p : System) (done : ℕ → Bool) (st : ℕ → Decision) : Type 0 where
  pub users : (e d : ℕ) → e < length p.linears → d < length p.linears → done d ≡ true → names p e d ≡ true → done e ≡ true
  pub solved : (d : ℕ) → d < length p.linears → done d ≡ true → st d ≡ decide_at slots p st d

pub taken_none : (slots : ℕ) (p : System) (st : ℕ → Decision) → Taken slots p (λ d. false) st
taken_none slots p st = record { users = λ e d l m h u. h; solved = λ d l h. let z : ◌≡◌ {A = ℕ} 0 1 = cc in absurd (omega arith) }

pub taken_all : (slots : ℕ) (p : System) (done : ℕ → Bool) (st : ℕ → Decision) → Taken slots p done st → ((d : ℕ) → d < length p.linears → done d ≡ true) → Solves slots p st
taken_all slots p done st t h = λ d l. t.solved d l (h d l)

-- One more definition d, all that name it being done: the state changes at d only, to the answer that the state before gives d.
module _ (slots : ℕ) (p : System) (done done' : ℕ → Bool) (st st' : ℕ → Decision) (t : Taken slots p done st)
    (d : ℕ) (new : done d ≡ false) (ready : (e : ℕ) → e < length p.linears → names p e d ≡ true → done e ≡ true)
    (here : st' d ≡ decide_at slots p st d) (there : (e : ℕ) → (e ≡ d → ⊥) → st' e ≡ st e)
    (now : done' d ≡ true) (else : (e : ℕ) → (e ≡ d → ⊥) → done' e ≡ done e) where
  not_new : (e : ℕ) → done e ≡ true → e ≡ d → ⊥
  not_new e h q = let z : true ≡ false = sym h ∙ ap done q ∙ new in let y : ◌≡◌ {A = ℕ} 0 1 = cc in omega arith

  same_there : (e : ℕ) → done e ≡ true → st e ≡ st' e
  same_there e h = sym (there e (not_new e h))

  still : (e : ℕ) → done e ≡ true → done' e ≡ true
  still e h = else e (not_new e h) ∙ h

  users_one : (e f : ℕ) → e < length p.linears → f < length p.linears → done' f ≡ true → names p e f ≡ true → (b : Bool) → eqb f d ≡ b → done' e ≡ true
  users_one e f l m h u true q = still e (ready e l (ap (λ (k : ℕ). names p e k) (sym (eqb-true f d q)) ∙ u))
  users_one e f l m h u false q = still e (t.users e f l m (sym (else f (eqb-false f d q)) ∙ h) u)

  solved_one : (f : ℕ) → f < length p.linears → done' f ≡ true → (b : Bool) → eqb f d ≡ b → st' f ≡ decide_at slots p st' f
  solved_one f m h true q =
      let e : f ≡ d = eqb-true f d q in
      ap st' e ∙ here ∙ decide-same p st st' slots d (λ k l u. same_there k (ready k l u)) ∙ ap (λ (k : ℕ). decide_at slots p st' k) (sym e)
  solved_one f m h false q =
      let e : done f ≡ true = sym (else f (eqb-false f d q)) ∙ h in
      there f (eqb-false f d q) ∙ t.solved f m e ∙ decide-same p st st' slots f (λ k l u. same_there k (t.users k f l m e u))

  pub taken_one : Taken slots p done' st'
  taken_one = record { users = λ e f l m h u. users_one e f l m h u (eqb f d) refl; solved = λ f m h. solved_one f m h (eqb f d) refl }
