-- The order that the walk ends with takes each definition after all that name it; so every accepted system has exactly one solution.
-- Assumes nothing.
use mathlib.Core.Path.{◌≡◌, refl, ap, ◌∙◌, subst}
use Prim.Native.Nat.{ℕ, ◌<◌}
use mathlib.Core.List.Memᴰ
use mathlib.Core.List.{List, [], ◌∷◌, Memᴰ}
use mathlib.Core.Bool.{Bool, true, false}
use mathlib.Core.Logic.{◌⊎◌, inl, inr, ⊎_elim}
use native.Mathlib.Omega.{arith}
use lib.ListN.{length, replicate, length-replicate}
use Rattle.operand.specs.Numbers.{Operand}
use Rattle.lower.specs.Lists.{All}
use Rattle.lower.specs.Model.{Definition, System, destinations}
use Rattle.lower.specs.Accepted.{Once, NoCircle, Accepted}
use Rattle.lower.proofs.Laws.{all_map}
use Rattle.legraph.specs.Uses.{rhs_of, names}
use Rattle.legraph.specs.Walked.{Walked, walk_of, order_of}
use Rattle.legraph.specs.Orders.{Link, Posted, more}
use Rattle.legraph.proofs.Cases.{same_or_not}
use Rattle.legraph.proofs.Walking.{Right, walk_right, links_in}
use Rattle.legraph.proofs.Listing.{table_of, found_at}
use Rattle.legraph.proofs.Circles.{circle_reaches, names_link}
use Rattle.commit_set.specs.declared.Decision.{Decision}
use Rattle.commit_set.specs.declared.Decision.TheVariants.{Commit}
use Rattle.commit_set.specs.Decision.{Solves}
use Rattle.commit_set.specs.Orders.{put, take_all_lem, InOrder}
use Rattle.commit_set.proofs.Orders.{put_here, put_there, order_found, order_only}

module _ (p : System) (m : ℕ) (once : Once p.linears) (small : All (λ (d : ℕ). d < m) (destinations p.linears))
    (rhs : ℕ → Operand) (same : (d : ℕ) → d < length p.linears → rhs d ≡ rhs_of p d) where
  -- what is not in the rest of an order is done
  posted_order : (ds : List ℕ) → Posted rhs (table_of m p) ds → ((d : ℕ) → Memᴰ d ds → d < length p.linears)
      → (finished : ℕ → Bool) → ((d : ℕ) → Memᴰ d ds → finished d ≡ false) → ((d : ℕ) → d < length p.linears → (finished d ≡ true) ⊎ Memᴰ d ds) → InOrder p finished ds
  unfolding InOrder
  posted_order [] o only f new left = λ d l. ⊎_elim (λ (h : f d ≡ true). h) (λ (h : Memᴰ d []). absurd (Memᴰ.not-nil h)) (left d l)
  posted_order (x ∷ ds) (more fresh all o) only f new left = (
    new x (Memᴰ.head refl),
    users,
    posted_order ds o (λ d h. only d (Memᴰ.tail h)) (put f x true)
        (λ d h. put_there f x true d (not_here d h) ∙ new d (Memᴰ.tail h))
        (λ d l. same_or_not d x
        (λ q. inl (ap (put f x true) q ∙ put_here f x true))
        (λ n. ⊎_elim (λ (h : f d ≡ true). inl (put_there f x true d n ∙ h)) (λ (h : Memᴰ d (x ∷ ds)). inr (later d n h)) (left d l))),
  )
    where
      not_here : (d : ℕ) → Memᴰ d ds → d ≡ x → ⊥
      not_here d h q = fresh (subst (λ (y : ℕ). Memᴰ y ds) q h)

      in_list : (e : ℕ) → Link rhs (table_of m p) e x → Memᴰ e (x ∷ ds) → Memᴰ x ds
      in_list e k (Memᴰ.head q) = all x (subst (λ (y : ℕ). Link rhs (table_of m p) y x) q k)
      in_list e k (Memᴰ.tail h) = links_in rhs (table_of m p) ds o e x h k

      users : (e : ℕ) → e < length p.linears → names p e x ≡ true → f e ≡ true
      users e l u =
          ⊎_elim (λ (h : f e ≡ true). h) (λ (h : Memᴰ e (x ∷ ds)). absurd (fresh (in_list e (names_link p m once small rhs same e x l (only x (Memᴰ.head refl)) u) h))) (left e l)

      later : (d : ℕ) → (d ≡ x → ⊥) → Memᴰ d (x ∷ ds) → Memᴰ d ds
      later d n (Memᴰ.head q) = absurd (n q)
      later d n (Memᴰ.tail h) = h

  pub in_order : (ds : List ℕ) → Posted rhs (table_of m p) ds → ((d : ℕ) → d < length p.linears → Memᴰ d ds) → ((d : ℕ) → Memᴰ d ds → d < length p.linears) → InOrder p (λ d. false) ds
  in_order ds o whole only = posted_order ds o only (λ d. false) (λ d h. refl) (λ d l. inr (whole d l))

-- A wire count above all destinations makes a table of all definitions.
module _ (p : System) (once : Once p.linears) (named : All (λ (d : Definition). d.dst < p.wires) p.linears) where
  small : All (λ (d : ℕ). d < p.wires) (destinations p.linears)
  small = all_map (λ (d : ℕ). d < p.wires) (λ (d : Definition). d.dst) p.linears named

  walk : Walked
  walk = walk_of (rhs_of p) (table_of p.wires p) (length p.linears) (replicate (length p.linears) 0) (replicate (length p.linears) 0)

  right : Right (rhs_of p) (table_of p.wires p) (length p.linears) walk
  unfolding walk
  right =
      walk_right (rhs_of p) (table_of p.wires p) (length p.linears) (length p.linears) (replicate (length p.linears) 0) (omega arith) (omega (arith, length-replicate {A = ℕ} (length p.linears) 0))
      (λ x d h. (found_at p p.wires once small x d h).under)

  -- a system without circles has an order
  pub has_order : NoCircle p → (ds : List ℕ) × InOrder p (λ d. false) ds
  has_order none = go walk.circle refl
    where
      go : (b : Bool) → walk.circle ≡ b → (ds : List ℕ) × InOrder p (λ d. false) ds
      go true e = let c = circle_reaches p p.wires once small (rhs_of p) (λ d l. refl) (right.circle e) in absurd (none c.0 c.1)
      go false e = (order_of walk, in_order p p.wires once small (rhs_of p) (λ d l. refl) (order_of walk) (right.posted e) (right.whole e) (right.only e))

-- THE THEOREM. Every accepted system has a solution for the given slots, and only one.
module _ (slots : ℕ) (p : System) (a : Accepted p) where
  pub order : (ds : List ℕ) × InOrder p (λ d. false) ds
  order = has_order p a.once a.named.destinations_named a.no_circle

  unfoldable pub solution : ℕ → Decision
  solution = take_all_lem slots p (λ d. Commit) order.0

  pub solution_solves : Solves slots p solution
  unfolding solution
  solution_solves = order_found slots p order.0 (λ d. Commit) order.1

  pub solution_only : (st : ℕ → Decision) → Solves slots p st → (d : ℕ) → d < length p.linears → solution d ≡ st d
  unfolding solution
  solution_only st s = order_only slots p order.0 (λ d. Commit) st order.1 s
