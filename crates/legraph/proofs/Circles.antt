-- A definition leads to itself by the table just where one reaches itself in the system, so the walk meets a circle just where there is one.
-- Assumes nothing.
use mathlib.Core.Path.{◌≡◌, refl, sym, ap, ◌∙◌, subst}
use Prim.Native.Nat.{ℕ, zero, suc, ◌<◌}
use mathlib.Core.List.{List, [], ◌∷◌, Memᴰ}
use mathlib.Core.Bool.{Bool, true, false, ◌||◌}
use mathlib.Core.Option.{Option, none, some}
use native.Mathlib.Omega.{arith}
use lib.ListN.{length, get_or}
use lib.Dec.{eqb}
use borrow.Author.Tests.{eqb-true}
use Rattle.operand.specs.Numbers.{Term, Operand}
use Rattle.lower.specs.Lists.{All, some_of}
use Rattle.lower.specs.Model.{System, destinations}
use Rattle.lower.specs.Accepted.{Once, Reaches, names, through, NoCircle}
use Rattle.legraph.specs.Uses.{dst_of, rhs_of}
use Rattle.legraph.specs.Uses.{names as names_of}
use Rattle.legraph.specs.Orders.{Link, Leads, directly, onward, Circle, Posted}
use Rattle.legraph.proofs.Walking.{no_circle}
use Rattle.legraph.proofs.Listing.{table_of, found_at, found-by, found_none}

some_one : {A : Type 0} {x y : A} → some x ≡ some y → x ≡ y
some_one {x = x} e = ap (from x) e
  where
    from : {A : Type 0} → A → Option A → A
    from z none = z
    from z (some a) = a

none-some : {A B : Type 0} {x : A} → none ≡ some x → B
none-some e = let z : ◌≡◌ {A = ℕ} 0 1 = ap is e in absurd (omega arith)
  where
    is : {A : Type 0} → Option A → ℕ
    is none = 0
    is (some a) = 1

some_term : (q : Term → Bool) (ts : List Term) → some_of q ts ≡ true → (t : Term) × Memᴰ t ts × (q t ≡ true)
some_term q [] e = let z : ◌≡◌ {A = ℕ} 0 1 = cc in absurd (omega arith)
some_term q (t ∷ ts) e = go (q t) refl (λ h. some_term q ts h) e
  where
    go : (b : Bool) → q t ≡ b → (some_of q ts ≡ true → (u : Term) × Memᴰ u ts × (q u ≡ true)) → (b || some_of q ts) ≡ true → (u : Term) × Memᴰ u (t ∷ ts) × (q u ≡ true)
    go true h r k = (t, Memᴰ.head refl, h)
    go false h r k = let u = r k in (u.0, Memᴰ.tail u.1, u.2)

-- rhs is that of the system where there are definitions
module _ (p : System) (m : ℕ) (once : Once p.linears) (small : All (λ (d : ℕ). d < m) (destinations p.linears))
    (rhs : ℕ → Operand) (same : (d : ℕ) → d < length p.linears → rhs d ≡ rhs_of p d) where
  pub leads_under : {d e : ℕ} → Leads rhs (table_of m p) d e → e < length p.linears
  leads_under {e = e} (directly k) = (found_at p m once small k.0.wire e k.2).under
  leads_under {e = e} (onward l k) = (found_at p m once small k.0.wire e k.2).under

  link_reaches : (d e : ℕ) → d < length p.linears → Link rhs (table_of m p) d e → Reaches p (dst_of p d) (dst_of p e)
  link_reaches d e l k =
      let here = found_at p m once small (dst_of p d) d (found-by p m once small d l) in
      subst (Reaches p (dst_of p d)) (sym (found_at p m once small k.0.wire e k.2).wire)
      (names (rhs_of p d) k.0 here.right (subst (Memᴰ k.0) (same d l) k.1))

  leads_reaches : {d e : ℕ} → d < length p.linears → Leads rhs (table_of m p) d e → Reaches p (dst_of p d) (dst_of p e)
  leads_reaches {d = d} {e = e} l (directly k) = link_reaches d e l k
  leads_reaches {d = d} {e = e} l (onward {e = x} r k) = through (leads_reaches l r) (link_reaches x e (leads_under r) k)

  leads_both : {d e f : ℕ} → Leads rhs (table_of m p) d e → Leads rhs (table_of m p) e f → Leads rhs (table_of m p) d f
  leads_both a (directly k) = onward a k
  leads_both a (onward b k) = onward (leads_both a b) k

  -- what reaches is a definition, and it leads to what it reaches
  record Led (u v : ℕ) : Type 0 where
    number : ℕ
    found : get_or (table_of m p) u 0 ≡ suc number
    leads : (e : ℕ) → get_or (table_of m p) v 0 ≡ suc e → Leads rhs (table_of m p) number e

  reaches_leads : {u v : ℕ} → Reaches p u v → Led u v
  reaches_leads {u = u} (names o t q h) = go (get_or (table_of m p) u 0) refl
    where
      go : (x : ℕ) → get_or (table_of m p) u 0 ≡ x → Led u t.wire
      go zero e = none-some (sym (found_none p m once small u e) ∙ q)
      go (suc d) e =
          let f = found_at p m once small u d e in
          let r : rhs d ≡ o = same d f.under ∙ some_one (sym f.right ∙ q) in
          record { number = d; found = e; leads = λ k z. directly (t, subst (Memᴰ t) (sym r) h, z) }
  reaches_leads (through a b) =
      let x = reaches_leads a in
      let y = reaches_leads b in
      record { number = x.number; found = x.found; leads = λ e z. leads_both (x.leads y.number y.found) (y.leads e z) }

  pub circle_reaches : Circle rhs (table_of m p) → (w : ℕ) × Reaches p w w
  circle_reaches c = (dst_of p c.0, leads_reaches (leads_under c.1) c.1)

  pub order_none : (ds : List ℕ) → Posted rhs (table_of m p) ds → ((d : ℕ) → d < length p.linears → Memᴰ d ds) → NoCircle p
  order_none ds o whole = λ w r.
      let x = reaches_leads r in
      no_circle rhs (table_of m p) ds o x.number (whole x.number (found_at p m once small w x.number x.found).under) (x.leads x.number x.found)

  -- a definition that names another one is linked to it
  pub names_link : (e d : ℕ) → e < length p.linears → d < length p.linears → names_of p e d ≡ true → Link rhs (table_of m p) e d
  names_link e d k l h =
      let t = some_term (λ (u : Term). eqb u.wire (dst_of p d)) (rhs_of p e) h in
      (t.0, subst (Memᴰ t.0) (sym (same e k)) t.1, ap (λ (w : ℕ). get_or (table_of m p) w 0) (eqb-true t.0.wire (dst_of p d) t.2) ∙ found-by p m once small d l)
