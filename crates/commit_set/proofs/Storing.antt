-- Decisions in a store of numbers: writing one more keeps what is decided so far, and, once all are written, the store is a solution.
-- Assumes nothing.
use mathlib.Core.Path.{◌≡◌, refl, sym, ap, ◌∙◌, subst}
use Prim.Native.Nat.{ℕ, suc, ◌<◌, ◌≤◌}
use native.Mathlib.Omega.{arith}
use mathlib.Core.Bool.{Bool, true, false}
use mathlib.Core.List.{List}
use lib.Dec.{eqb}
use lib.ListN.{length, set}
use lib.Seq.{get_or-set_same, get_or-set_other}
use borrow.Author.Tests.{eqb-true, eqb-false}
use Rattle.lower.specs.Model.{System}
use Rattle.legraph.specs.Uses.{rhs_of, names}
use Rattle.commit_set.specs.declared.Decision.{Decision}
use Rattle.commit_set.specs.declared.Decision.TheVariants.{Commit, Inline}
use Rattle.commit_set.specs.Runs.{join_all}
use Rattle.commit_set.specs.Decision.{contexts_of, shifts_of, decide_at, Solves}
use Rattle.commit_set.specs.Numbers.{decision_number, decision_at, state_at, Packs}
use Rattle.commit_set.proofs.Unique.{Taken, taken_none, taken_all, taken_one}
use Rattle.commit_set.proofs.Circles.{Shallow, depth_uses, decide_shallow}
use Rattle.commit_set.proofs.Packing.{decision_back}
use Rattle.commit_set.proofs.Bounds.{contexts_pack, decide_packs}

-- n definitions have been decided, those of which `done` says so
pub record Stored (slots : ℕ) (p : System) (done : ℕ → Bool) (n : ℕ) (l : List ℕ) : Type 0 where
  pub taken : Taken slots p done (state_at l)
  pub packs : (e : ℕ) → e < length p.linears → done e ≡ true → Packs (state_at l e)
  pub shallow : (e : ℕ) → e < length p.linears → done e ≡ true → Shallow n (state_at l e)

pub stored_none : (slots : ℕ) (p : System) (l : List ℕ) → Stored slots p (λ d. false) 0 l
stored_none slots p l = record { taken = taken_none slots p (state_at l); packs = λ e m h. none h; shallow = λ e m h. none h }
  where
    none : {A : Type 0} → false ≡ true → A
    none h = let z : ◌≡◌ {A = ℕ} 0 1 = cc in absurd (omega arith)

pub stored_all : (slots : ℕ) (p : System) (done : ℕ → Bool) (n : ℕ) (l : List ℕ) → Stored slots p done n l → ((d : ℕ) → d < length p.linears → done d ≡ true) → Solves slots p (state_at l)
stored_all slots p done n l s h = taken_all slots p done (state_at l) s.taken h

shallow_less : (n m : ℕ) (x : Decision) → n ≤ m → Shallow n x → Shallow m x
shallow_less n m Commit l h = tt
shallow_less n m (Inline c) l h = omega arith

module _ (slots : ℕ) (p : System) (done : ℕ → Bool) (n : ℕ) (l : List ℕ) (s : Stored slots p done n l) (few : n ≤ 65535)
    (d : ℕ) (ready : (e : ℕ) → e < length p.linears → names p e d ≡ true → done e ≡ true) where
  -- the answer for the next definition is within the bits of its number, and at most n deep
  pub next_packs : Packs (decide_at slots p (state_at l) d)
  next_packs =
      decide_packs slots (contexts_of p (state_at l) d) (shifts_of (rhs_of p d))
      (contexts_pack p (state_at l) d (λ e m u. (s.packs e m (ready e m u), shallow_less n 65535 (state_at l e) few (s.shallow e m (ready e m u)))))

  pub next_depth : (join_all (contexts_of p (state_at l) d)).depth ≤ n
  next_depth = depth_uses p (state_at l) n d (λ e m u. s.shallow e m (ready e m u))

  module _ (done' : ℕ → Bool) (new : done d ≡ false) (now : done' d ≡ true) (else : (e : ℕ) → (e ≡ d → ⊥) → done' e ≡ done e)
      (m : d < length l) (x : Decision) (is : x ≡ decide_at slots p (state_at l) d) where
    here : state_at (set l d (decision_number x)) d ≡ decide_at slots p (state_at l) d
    here = ap decision_at (get_or-set_same l d (decision_number x) 0 m) ∙ decision_back x (subst Packs (sym is) next_packs) ∙ is

    there : (e : ℕ) → (e ≡ d → ⊥) → state_at (set l d (decision_number x)) e ≡ state_at l e
    there e h = ap decision_at (get_or-set_other l d e (decision_number x) 0 h)

    -- what holds of the next answer and of those before holds of all after
    at_all : (P Q : Decision → Type 0) → ((y : Decision) → P y → Q y) → ((e : ℕ) → e < length p.linears → done e ≡ true → P (state_at l e)) → Q (decide_at slots p (state_at l) d)
        → (e : ℕ) → e < length p.linears → done' e ≡ true → Q (state_at (set l d (decision_number x)) e)
    at_all P Q f h q e k g = go (eqb e d) refl
      where
        go : (b : Bool) → eqb e d ≡ b → Q (state_at (set l d (decision_number x)) e)
        go true t = subst (λ (i : ℕ). Q (state_at (set l d (decision_number x)) i)) (sym (eqb-true e d t)) (subst Q (sym here) q)
        go false t = subst Q (sym (there e (eqb-false e d t))) (f (state_at l e) (h e k (sym (else e (eqb-false e d t)) ∙ g)))

    pub stored_one : Stored slots p done' (suc n) (set l d (decision_number x))
    stored_one = record {
      taken = taken_one slots p done done' (state_at l) (state_at (set l d (decision_number x))) s.taken d new ready here there now else;
      packs = at_all Packs Packs (λ y h. h) s.packs next_packs;
      shallow = at_all (Shallow n) (Shallow (suc n)) (λ y h. shallow_less n (suc n) y (omega arith) h) s.shallow
          (decide_shallow slots (suc n) (contexts_of p (state_at l) d) (shifts_of (rhs_of p d)) (omega (arith, next_depth)));
    }
