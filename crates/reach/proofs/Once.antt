-- What the contracts of the masks say of a store determines it. Assumes nothing.
use mathlib.Core.Path.{◌≡◌, refl, sym, ap₂, ◌∙◌}
use Prim.Native.Nat.{ℕ, zero, suc, ◌<◌}
use native.Mathlib.Omega.{arith}
use mathlib.Core.Bool.{Bool, true}
use mathlib.Core.List.{List, [], ◌∷◌}
use lib.ListN.{length, get_or, take, drop, replicate}
use Rattle.lower.specs.declared.Sizes.{Sizes}
use Rattle.lower.specs.Model.{System, defines}
use Rattle.lower.specs.Accepted.{Once}
use Rattle.lower.specs.Stores.{Stores, system_of}
use Rattle.lower.specs.Faults.{memory_fault}
use Rattle.legraph.specs.Tables.{numbered}
use Rattle.legraph.specs.Uses.{rhs_of}
use Rattle.legraph.specs.Walked.{rhs_in}
use Rattle.legraph.proofs.Listing.{found_at, found-by}
use Rattle.legraph.proofs.Theorem.{count, dst_same, small}
use Rattle.reach.specs.Alive.{AliveIn}
use Rattle.reach.specs.Reach.{ReachIn}
use Rattle.reach.specs.Steps.{Gathered, Filled, Order}
use Rattle.reach.proofs.Meeting.{defines-by}
use Rattle.reach.proofs.Reaching.{reach_only}
use Rattle.reach.proofs.Ordered.{straight_by}

-- stores of one length that agree in the first n numbers, and from there on
same-stores : (n : ℕ) (a b : List ℕ) → length a ≡ length b → ((d : ℕ) → d < n → get_or a d 0 ≡ get_or b d 0) → drop n a ≡ drop n b → a ≡ b
same-stores zero a b l f e = e
same-stores (suc n) [] [] l f e = refl
same-stores (suc n) [] (y ∷ b) l f e = absurd (omega (arith, l))
same-stores (suc n) (x ∷ a) [] l f e = absurd (omega (arith, l))
same-stores (suc n) (x ∷ a) (y ∷ b) l f e = ap₂ (λ (v : ℕ) (w : List ℕ). v ∷ w) (f 0 (omega arith)) (same-stores n a b (omega (arith, l)) (λ d k. f (suc d) (omega arith)) e)

filled-same : (n : ℕ) (before a b : List ℕ) → Filled n before a → Filled n before b → ((d : ℕ) → d < n → get_or a d 0 ≡ get_or b d 0) → a ≡ b
filled-same n before a b f g h = same-stores n a b (f.long ∙ sym g.long) h (f.kept ∙ sym g.kept)

pub gathered_once : (n : ℕ) (dsts masks before a b : List ℕ) → Gathered n dsts masks a → Filled n before a → Gathered n dsts masks b → Filled n before b → a ≡ b
gathered_once n dsts masks before a b i f j g = filled-same n before a b f g (λ d l. i.gathered d l ∙ sym (j.gathered d l))

-- THE THEOREMS. Two stores after the call, from the same store before, are equal.
pub alive_once : (p : System) (c : ℕ → Bool) (n : ℕ) (dsts before a b : List ℕ) → AliveIn p c n dsts a → Filled n before a → AliveIn p c n dsts b → Filled n before b → a ≡ b
alive_once p c n dsts before a b i f j g = filled-same n before a b f g (λ d l. i d l ∙ sym (j d l))

module _ (z : Sizes) (s : Stores) (e : memory_fault 8192 z s ≡ 0) (once : Once (system_of z s).linears) (c : ℕ → Bool)
    (ds : List ℕ) (o : Order (rhs_in s.old s.new s.rhss) (numbered 0 (take z.linears s.dsts) (replicate 4096 0)) z.linears ds) where
  abbrev p : System
  p = system_of z s

  -- the destinations that stand in the store are the defined wires
  stand_defined : (d : ℕ) → d < z.linears → defines p.linears (get_or s.dsts d 0) ≡ true
  stand_defined d l =
      let k : d < length p.linears = omega (arith, l, count z s e) in
      rw (dst_same z s e d k) (defines-by p.linears _ (rhs_of p d) (found_at p 4096 once (small z s e) _ d (found-by p 4096 once (small z s e) d k)).right)

  pub reach_once : (before a b : List ℕ) → ReachIn p c z.linears s.dsts a → Filled z.linears before a → ReachIn p c z.linears s.dsts b → Filled z.linears before b → a ≡ b
  reach_once before a b i f j g =
      filled-same z.linears before a b f g
      (λ d l. i.stands_in d l ∙ reach_only p c once (straight_by z s e once ds o) i.reach j.reach i.is_reach j.is_reach (get_or s.dsts d 0) (stand_defined d l) ∙ sym (j.stands_in d l))
