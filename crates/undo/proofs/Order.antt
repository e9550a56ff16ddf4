-- Filling one definition after the other, in any order of the walk, is filling back. Assumes nothing.
use mathlib.Core.Path.{◌≡◌, refl, sym, ap, ◌∙◌, subst}
use Prim.Native.Nat.{ℕ, ◌<◌}
use native.Mathlib.Omega.{arith}
use mathlib.Core.Bool.{Bool, true, false, cond}
use mathlib.Core.List.Memᴰ
use mathlib.Core.List.{List, [], ◌∷◌, Memᴰ}
use mathlib.Core.Option.{none, some}
use lib.ListN.{length, get_or, set, length-set}
use lib.Seq.{get_or-set_same, get_or-set_other}
use Rattle.operand.specs.Numbers.{Term, Operand}
use Rattle.lower.specs.Lists.{All}
use Rattle.lower.specs.Model.{Definition, System, destinations, definition_of}
use Rattle.lower.specs.Values.{value, word_of}
use Rattle.lower.specs.Accepted.{Once, Accepted}
use Rattle.legraph.specs.Uses.{rhs_of, dst_of, no_definition}
use Rattle.legraph.specs.Orders.{Link, Posted, more}
use Rattle.legraph.proofs.Listing.{table_of, found_at, found-by}
use Rattle.legraph.proofs.Walking.{links_in}
use Rattle.commit_set.proofs.Members.{all_get}
use Rattle.commit_set.proofs.Circles.{found}
use Rattle.patch.specs.Patch.{inlined}
use Rattle.patch.proofs.Parts.{lost, clash, all_each, all_members}
use Rattle.patch.proofs.Chains.{inlined_defined}
use Rattle.patch.proofs.Definitions.{inlined_uncommitted}
use Rattle.undo.specs.FillBack.{FilledBack, filled_list}
use Rattle.undo.specs.Steps.{fill_one, fill_all}
use Rattle.undo.proofs.Values.{value_agree}
use Rattle.undo.proofs.Listed.{one_list}

module _ (p : System) (c : ℕ → Bool) where
  fill_one-length : (ws : List ℕ) (d : ℕ) → length (fill_one p c ws d) ≡ length ws
  unfolding fill_one
  fill_one-length ws d = go (c (dst_of p d))
    where
      go : (b : Bool) → length (cond b ws (set ws (dst_of p d) (value (word_of ws) (rhs_of p d)))) ≡ length ws
      go true = refl
      go false = length-set ws (dst_of p d) (value (word_of ws) (rhs_of p d))

  pub fill_all-length : (ds ws : List ℕ) → length (fill_all p c ds ws) ≡ length ws
  unfolding fill_all
  fill_all-length [] ws = refl
  fill_all-length (d ∷ ds) ws = fill_one-length (fill_all p c ds ws) d ∙ fill_all-length ds ws

  -- one definition more, as a loop takes it
  pub fill-committed : (ws : List ℕ) (d : ℕ) → c (dst_of p d) ≡ true → ws ≡ fill_one p c ws d
  unfolding fill_one
  fill-committed ws d e = rw e

  pub fill_uncommitted : (ws : List ℕ) (d : ℕ) → c (dst_of p d) ≡ false → set ws (dst_of p d) (value (word_of ws) (rhs_of p d)) ≡ fill_one p c ws d
  unfolding fill_one
  fill_uncommitted ws d e = rw e

module _ (p : System) (c : ℕ → Bool) (m : ℕ) (once : Once p.linears) (small : All (λ (d : ℕ). d < m) (destinations p.linears))
    (named : All (λ (d : Definition). d.dst < p.wires) p.linears) (rhs : ℕ → Operand) (same : (d : ℕ) → d < length p.linears → rhs d ≡ rhs_of p d)
    (ws : List ℕ) (long : length ws ≡ p.wires) where
  defined : (d : ℕ) → d < length p.linears → definition_of p.linears (dst_of p d) ≡ some (rhs_of p d)
  defined d l = (found_at p m once small (dst_of p d) d (found-by p m once small d l)).right

  opened : (d : ℕ) → d < length p.linears → c (dst_of p d) ≡ false → inlined p c (dst_of p d) ≡ some (rhs_of p d)
  unfolding inlined
  opened d l e = rw e (defined d l)

  there : (ds : List ℕ) (d : ℕ) → d < length p.linears → dst_of p d < length (fill_all p c ds ws)
  there ds d l = omega (arith, fill_all-length p c ds ws, long, all_get (λ (d : Definition). d.dst < p.wires) p.linears d no_definition named l)

  -- two definitions of one wire are one
  one_wire : (d e : ℕ) → d < length p.linears → e < length p.linears → dst_of p e ≡ dst_of p d → e ≡ d
  one_wire d e l k q =
      let a = found-by p m once small d l in let b = found-by p m once small e k in
      let z = ap (λ (w : ℕ). get_or (table_of m p) w 0) q in
      omega (arith, a, b, z)

  -- what is left alone
  pub order_others : (ds : List ℕ) → ((d : ℕ) → Memᴰ d ds → d < length p.linears) → (i : ℕ) → inlined p c i ≡ none → word_of (fill_all p c ds ws) i ≡ word_of ws i
  unfolding fill_all fill_one
  order_others [] only i e = refl
  order_others (d ∷ ds) only i e = go (c (dst_of p d)) refl (order_others ds (λ x h. only x (Memᴰ.tail h)) i e)
    where
      go : (b : Bool) → c (dst_of p d) ≡ b → word_of (fill_all p c ds ws) i ≡ word_of ws i
          → word_of (cond b (fill_all p c ds ws) (set (fill_all p c ds ws) (dst_of p d) (value (word_of (fill_all p c ds ws)) (rhs_of p d)))) i ≡ word_of ws i
      go true k h = h
      go false k h =
          get_or-set_other (fill_all p c ds ws) (dst_of p d) i (value (word_of (fill_all p c ds ws)) (rhs_of p d)) 0
          (λ q. lost (opened d (only d (Memᴰ.head refl)) k) (ap (inlined p c) (sym q) ∙ e))
          ∙ h

  -- no definition of a list that is in order names the one in front of it
  apart : (d : ℕ) (ds : List ℕ) → (Memᴰ d ds → ⊥) → ((e : ℕ) → Link rhs (table_of m p) d e → Memᴰ e ds) → Posted rhs (table_of m p) ds
      → d < length p.linears → (e : ℕ) → e < length p.linears → Memᴰ e (d ∷ ds) → All (λ (t : Term). t.wire ≡ dst_of p d → ⊥) (rhs_of p e)
  apart d ds fresh all o l e k h =
      all_members (rhs_of p e) λ t n q.
      fresh (go (t, subst (λ (r : Operand). Memᴰ t r) (sym (same e k)) n, ap (λ (w : ℕ). get_or (table_of m p) w 0) q ∙ found-by p m once small d l) h)
    where
      go : Link rhs (table_of m p) e d → Memᴰ e (d ∷ ds) → Memᴰ d ds
      go n (Memᴰ.head q) = all d (subst (λ (x : ℕ). Link rhs (table_of m p) x d) q n)
      go n (Memᴰ.tail h) = links_in rhs (table_of m p) ds o e d h n

  -- what is filled has the value of its definition, then and later
  pub order_filled : (ds : List ℕ) → Posted rhs (table_of m p) ds → ((d : ℕ) → Memᴰ d ds → d < length p.linears)
      → (e : ℕ) → Memᴰ e ds → c (dst_of p e) ≡ false → word_of (fill_all p c ds ws) (dst_of p e) ≡ value (word_of (fill_all p c ds ws)) (rhs_of p e)
  unfolding fill_all fill_one
  order_filled [] o only e h u = absurd (Memᴰ.not-nil h)
  order_filled (d ∷ ds) (more fresh all o) only e h u =
      go (c (dst_of p d)) refl (λ k. order_filled ds o (λ x q. only x (Memᴰ.tail q)) e k u) h
    where
      settled : value (word_of (set (fill_all p c ds ws) (dst_of p d) (value (word_of (fill_all p c ds ws)) (rhs_of p d)))) (rhs_of p e) ≡ value (word_of (fill_all p c ds ws)) (rhs_of p e)
      settled =
          value_agree (word_of (set (fill_all p c ds ws) (dst_of p d) (value (word_of (fill_all p c ds ws)) (rhs_of p d)))) (word_of (fill_all p c ds ws))
          (all_each (λ t n. get_or-set_other (fill_all p c ds ws) (dst_of p d) t.wire (value (word_of (fill_all p c ds ws)) (rhs_of p d)) 0 n)
          (apart d ds fresh all o (only d (Memᴰ.head refl)) e (only e h) h))

      go : (b : Bool) → c (dst_of p d) ≡ b → (Memᴰ e ds → word_of (fill_all p c ds ws) (dst_of p e) ≡ value (word_of (fill_all p c ds ws)) (rhs_of p e)) → Memᴰ e (d ∷ ds)
          → word_of (cond b (fill_all p c ds ws) (set (fill_all p c ds ws) (dst_of p d) (value (word_of (fill_all p c ds ws)) (rhs_of p d)))) (dst_of p e)
          ≡ value (word_of (cond b (fill_all p c ds ws) (set (fill_all p c ds ws) (dst_of p d) (value (word_of (fill_all p c ds ws)) (rhs_of p d))))) (rhs_of p e)
      go true k f (Memᴰ.head q) = absurd (clash (ap (λ (y : ℕ). c (dst_of p y)) q ∙ k) u)
      go true k f (Memᴰ.tail n) = f n
      go false k f (Memᴰ.head q) =
          ap (λ (y : ℕ). word_of (set (fill_all p c ds ws) (dst_of p d) (value (word_of (fill_all p c ds ws)) (rhs_of p d))) (dst_of p y)) q
          ∙ get_or-set_same (fill_all p c ds ws) (dst_of p d) (value (word_of (fill_all p c ds ws)) (rhs_of p d)) 0 (there ds d (only d (Memᴰ.head refl)))
          ∙ ap (λ (y : ℕ). value (word_of (fill_all p c ds ws)) (rhs_of p y)) (sym q)
          ∙ sym settled
      go false k f (Memᴰ.tail n) =
          get_or-set_other (fill_all p c ds ws) (dst_of p d) (dst_of p e) (value (word_of (fill_all p c ds ws)) (rhs_of p d)) 0
          (λ q. fresh (subst (λ (y : ℕ). Memᴰ y ds) (one_wire d e (only d (Memᴰ.head refl)) (only e h) q) n))
          ∙ f n
          ∙ sym settled

  -- THE THEOREM. Filling in an order of all definitions fills back.
  pub fills_in_order : (ds : List ℕ) → Posted rhs (table_of m p) ds → ((d : ℕ) → d < length p.linears → Memᴰ d ds)
      → ((d : ℕ) → Memᴰ d ds → d < length p.linears) → FilledBack p c ws (fill_all p c ds ws)
  fills_in_order ds o whole only = record { others = order_others ds only; filled = filled }
    where
      filled : (i : ℕ) (r : Operand) → inlined p c i ≡ some r → word_of (fill_all p c ds ws) i ≡ value (word_of (fill_all p c ds ws)) r
      filled i r e =
          let f = found p.linears i r (inlined_defined p c i r e) in
          let u = inlined_uncommitted p c i r e in
          ap (word_of (fill_all p c ds ws)) (sym f.2)
          ∙ order_filled ds o only f.0 (whole f.0 f.1) (ap c f.2 ∙ u)
          ∙ ap (value (word_of (fill_all p c ds ws))) f.3

  -- so every order gives the same words
  pub order_filled_list : Accepted p → (ds : List ℕ) → Posted rhs (table_of m p) ds → ((d : ℕ) → d < length p.linears → Memᴰ d ds)
      → ((d : ℕ) → Memᴰ d ds → d < length p.linears) → fill_all p c ds ws ≡ filled_list p c ws
  order_filled_list acc ds o whole only =
      one_list p c acc ws (fill_all p c ds ws) long (fill_all-length p c ds ws ∙ long) (fills_in_order ds o whole only)
