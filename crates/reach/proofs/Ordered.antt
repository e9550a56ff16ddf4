-- What the walk leaves, where it has met no circle: an order of all definitions, each before those that it names. Assumes nothing.
use mathlib.Core.Path.{◌≡◌, sym, subst}
use Prim.Native.Nat.{ℕ, zero, suc, ◌≤◌, ◌<◌}
use native.Mathlib.Omega.{arith}
use mathlib.Core.Bool.{false}
use mathlib.Core.List.Memᴰ
use mathlib.Core.List.{List, [], ◌∷◌, Memᴰ}
use lib.ListN.{length, take, drop, replicate}
use Rattle.operand.specs.Numbers.{Operand}
use Rattle.lower.specs.declared.Sizes.{Sizes}
use Rattle.lower.specs.Model.{System}
use Rattle.lower.specs.Accepted.{Once, NoCircle}
use Rattle.lower.specs.Stores.{Stores, system_of}
use Rattle.lower.specs.Faults.{memory_fault}
use Rattle.legraph.specs.Orders.{Posted}
use Rattle.legraph.specs.Tables.{numbered}
use Rattle.legraph.specs.Walked.{Walked, walk_from, walk_of, order_of, rhs_in}
use Rattle.legraph.proofs.Circles.{order_none}
use Rattle.legraph.proofs.Theorem.{small, rhs_same, count, table_made, Ends, ends}
use Rattle.reach.specs.Steps.{Order}

-- a list of which something is left over ends after that
drop-under : (l : List ℕ) (k d : ℕ) → Memᴰ d (drop k l) → k ≤ length l
drop-under l zero d m = omega arith
drop-under [] (suc k) d m = absurd (Memᴰ.not-nil m)
drop-under (x ∷ xs) (suc k) d m = let h : k ≤ length xs = drop-under xs k d m in omega (arith, h)

-- where there is no definition nothing is written
walk_none : (rhs : ℕ → Operand) (table marks order : List ℕ) → (walk_of rhs table 0 marks order).left ≤ length (walk_of rhs table 0 marks order).order
unfolding walk_of walk_from
walk_none rhs table marks order = omega arith

module _ (z : Sizes) (s : Stores) (e : memory_fault 8192 z s ≡ 0) where
  abbrev p : System
  p = system_of z s

  abbrev made : List ℕ
  made = numbered 0 (take z.linears s.dsts) (replicate 4096 0)

  -- where there is an order there is no circle
  pub straight_by : Once p.linears → (ds : List ℕ) → Order (rhs_in s.old s.new s.rhss) made z.linears ds → NoCircle p
  straight_by once ds o =
      order_none p 4096 once (small z s e) (rhs_in s.old s.new s.rhss) (rhs_same z s e) ds
      (subst (λ (t : List ℕ). Posted (rhs_in s.old s.new s.rhss) t ds) (table_made z s e) o.posted) (λ d l. o.whole d (omega (arith, l, count z s e)))

  module _ (begun : List ℕ) where
    abbrev walked : Walked
    walked = walk_of (rhs_in s.old s.new s.rhss) made z.linears (replicate 1024 0) begun

    module _ (once : Once p.linears) (long : 1024 ≤ length begun) (straight : walked.circle ≡ false) where
      ended : Ends z s e once walked
      ended = subst (λ (x : List ℕ). Ends z s e once (walk_of (rhs_in s.old s.new s.rhss) x z.linears (replicate 1024 0) begun)) (sym (table_made z s e)) (ends z s e once begun long)

      ordered : Order (rhs_in s.old s.new s.rhss) made z.linears (order_of walked)
      ordered = record {
        posted = subst (λ (t : List ℕ). Posted (rhs_in s.old s.new s.rhss) t (order_of walked)) (sym (table_made z s e)) (ended.posted straight);
        only = λ d m. omega (arith, ended.only straight d m, count z s e);
        whole = λ d l. ended.whole straight d (omega (arith, l, count z s e));
      }

      within : walked.left ≤ length walked.order
      within = go z.linears (walk_none (rhs_in s.old s.new s.rhss) made (replicate 1024 0) begun) (λ d l. ordered.whole d l)
        where
          go : (n : ℕ) → (walk_of (rhs_in s.old s.new s.rhss) made 0 (replicate 1024 0) begun).left ≤ length (walk_of (rhs_in s.old s.new s.rhss) made 0 (replicate 1024 0) begun).order
              → ((d : ℕ) → d < n → Memᴰ d (order_of (walk_of (rhs_in s.old s.new s.rhss) made n (replicate 1024 0) begun)))
              → (walk_of (rhs_in s.old s.new s.rhss) made n (replicate 1024 0) begun).left ≤ length (walk_of (rhs_in s.old s.new s.rhss) made n (replicate 1024 0) begun).order
          go zero h f = h
          go (suc n) h f = drop-under _ _ 0 (f 0 (omega arith))

      -- THE THEOREM. The walk's order is what the masks are made by.
      pub walk_orders : (left : ℕ) (order : List ℕ) → left ≡ walked.left → order ≡ walked.order
          → Order (rhs_in s.old s.new s.rhss) made z.linears (drop left order) × (left ≤ length order)
      walk_orders left order l o = (rw (l, o) ordered, rw (l, o) within)
