-- Any order that takes each definition once, after all that name it, ends in the same answers. Assumes nothing.
use mathlib.Core.Path.{◌≡◌, refl, sym, ap, ◌∙◌}
use Prim.Native.Nat.{ℕ, ◌<◌}
use native.Mathlib.Omega.{arith}
use mathlib.Core.Bool.{Bool, true, false, cond}
use mathlib.Core.List.{List, [], ◌∷◌}
use lib.Dec.{eqb}
use lib.ListN.{length}
use borrow.Author.Tests.{eqb-true, eq-eqb, ne_eqb}
use Rattle.shift.specs.declared.Shift.{Shift}
use Rattle.lower.specs.Model.{System}
use Rattle.legraph.specs.Uses.{names}
use Rattle.commit_set.specs.declared.Decision.{Decision}
use Rattle.commit_set.specs.Decision.{below, decide_at, Solves}
use Rattle.commit_set.specs.Orders.{put, take_all_lem, InOrder}
use Rattle.commit_set.proofs.Unique.{Taken, taken_none, taken_all, taken_one, decide-same}

pub put_here : {A : Type 0} (f : ℕ → A) (d : ℕ) (a : A) → put f d a d ≡ a
put_here f d a = ap (λ (b : Bool). cond b a (f d)) (eq-eqb d d refl)

pub put_there : {A : Type 0} (f : ℕ → A) (d : ℕ) (a : A) (e : ℕ) → (e ≡ d → ⊥) → put f d a e ≡ f e
put_there f d a e h = ap (λ (b : Bool). cond b a (f e)) (ne_eqb e d h)

-- Taking the rest of an order solves the system.
pub order_solves : (slots : ℕ) (p : System) (ds : List ℕ) (done : ℕ → Bool) (st : ℕ → Decision) → InOrder p done ds → Taken slots p done st → Solves slots p (take_all_lem slots p st ds)
unfolding InOrder take_all_lem
order_solves slots p [] done st o t = taken_all slots p done st t o
order_solves slots p (d ∷ ds) done st o t =
    let x = decide_at slots p st d in
    order_solves slots p ds (put done d true) (put st d x) o.2
    (taken_one slots p done (put done d true) st (put st d x) t d o.0 o.1
    (put_here st d x) (put_there st d x) (put_here done d true) (put_there done d true))

-- Two solutions that agree on what is done agree on the rest of an order, and so on everything.
module _ (slots : ℕ) (p : System) (st st' : ℕ → Decision) (s : Solves slots p st) (s' : Solves slots p st') where
  along : (ds : List ℕ) (done : ℕ → Bool) → InOrder p done ds → ((e : ℕ) → e < length p.linears → done e ≡ true → st e ≡ st' e) → (e : ℕ) → e < length p.linears → st e ≡ st' e
  unfolding InOrder
  along [] done o h e l = h e l (o e l)
  along (d ∷ ds) done o h e l = along ds (put done d true) o.2 (λ f m q. go f m q (eqb f d) refl) e l
    where
      go : (f : ℕ) → f < length p.linears → put done d true f ≡ true → (b : Bool) → eqb f d ≡ b → st f ≡ st' f
      go f m q true k =
          s f m ∙ decide-same p st st' slots f (λ i n u. h i n (o.1 i n (ap (λ (j : ℕ). names p i j) (sym (eqb-true f d k)) ∙ u))) ∙ sym (s' f m)
      go f m q false k = h f m (ap (λ (b : Bool). cond b true (done f)) (sym k) ∙ q)

-- THE THEOREM. Where there is an order there is a solution, and it is the only one: deciding in that order, from any state, ends in it.
pub order_found : (slots : ℕ) (p : System) (ds : List ℕ) (st : ℕ → Decision) → InOrder p (λ d. false) ds → Solves slots p (take_all_lem slots p st ds)
order_found slots p ds st o = order_solves slots p ds (λ d. false) st o (taken_none slots p st)

pub order_only : (slots : ℕ) (p : System) (ds : List ℕ) (st st' : ℕ → Decision) → InOrder p (λ d. false) ds → Solves slots p st' → (e : ℕ) → e < length p.linears → take_all_lem slots p st ds e ≡ st' e
order_only slots p ds st st' o s =
    along slots p (take_all_lem slots p st ds) st' (order_found slots p ds st o) s ds (λ d. false) o (λ e l h. let z : ◌≡◌ {A = ℕ} 0 1 = cc in absurd (omega arith))

-- Two orders, from any two states, end in the same answers.
pub any_order : (slots : ℕ) (p : System) (ds ds' : List ℕ) (st st' : ℕ → Decision) → InOrder p (λ d. false) ds → InOrder p (λ d. false) ds' → (e : ℕ) → e < length p.linears → take_all_lem slots p st ds e ≡ take_all_lem slots p st' ds' e
any_order slots p ds ds' st st' o o' = order_only slots p ds st (take_all_lem slots p st' ds') o (order_found slots p ds' st' o')

-- The same context on each use: that of a term with the shift s of the definition e.
pub any_order_use : (slots : ℕ) (p : System) (ds ds' : List ℕ) (st st' : ℕ → Decision) → InOrder p (λ d. false) ds → InOrder p (λ d. false) ds' → (e : ℕ) → e < length p.linears → (s : Shift) → below (take_all_lem slots p st ds e) s ≡ below (take_all_lem slots p st' ds' e) s
any_order_use slots p ds ds' st st' o o' e l s = ap (λ (x : Decision). below x s) (any_order slots p ds ds' st st' o o' e l)
