-- The walk over a system in stores: a circle is met just where a definition reaches itself, and else the order has every definition once,
-- before all that it names.
-- Assumes nothing.
use mathlib.Core.Path.{◌≡◌, sym, ap, ◌∙◌, subst}
use Prim.Native.Nat.{ℕ, ◌≤◌, ◌<◌}
use mathlib.Core.List.{List, Memᴰ}
use mathlib.Core.Bool.{true, false}
use native.Mathlib.Omega.{arith}
use lib.ListN.{length, get_or, take, replicate}
use lib.Seq.{length-take-le, get_or-take}
use Rattle.operand.specs.Numbers.{operand_of}
use Rattle.lower.specs.declared.Sizes.{Sizes}
use Rattle.lower.specs.Lists.{All}
use Rattle.lower.specs.Model.{Definition, System, destinations}
use Rattle.lower.specs.Accepted.{Once, Reaches, NoCircle}
use Rattle.lower.specs.Stores.{Stores, system_of, Placed}
use Rattle.lower.specs.Faults.{memory_fault}
use Rattle.lower.proofs.Firsts.{part_all}
use Rattle.lower.proofs.Laws.{definition_at, destinations_model, linears_length}
use Rattle.lower.proofs.Checks.{checked, placed, stand, dsts_small, memory_places, memory_wires, memory_definitions}
use Rattle.legraph.specs.Uses.{no_definition, dst_of, rhs_of}
use Rattle.legraph.specs.Tables.{numbered}
use Rattle.legraph.specs.Walked.{Walked, walk_of, order_of, rhs_in, There, Sound}
use Rattle.legraph.specs.Orders.{Posted}
use Rattle.legraph.proofs.Walking.{walk_right}
use Rattle.legraph.proofs.Listing.{table_of, found_at}
use Rattle.legraph.proofs.Circles.{circle_reaches, order_none}

module _ (z : Sizes) (s : Stores) (e : memory_fault 8192 z s ≡ 0) where
  abbrev p : System
  p = system_of z s

  there : Placed z s
  there = placed z s (checked z s (memory_places 8192 z s e))

  pub count : length p.linears ≡ z.linears
  count = linears_length z s there.dsts_there there.rhss_there

  definition : (d : ℕ) → d < z.linears → get_or p.linears d no_definition ≡ record { dst = get_or s.dsts d 0; rhs = operand_of s.old s.new (get_or s.rhss d 0) }
  unfolding system_of
  definition d l =
      definition_at (operand_of s.old s.new) (take z.linears s.dsts) (take z.linears s.rhss) d no_definition
      (omega (arith, l, length-take-le z.linears s.dsts there.dsts_there)) (omega (arith, l, length-take-le z.linears s.rhss there.rhss_there))
      ∙ rw (get_or-take z.linears s.dsts d 0 l, get_or-take z.linears s.rhss d 0 l)

  pub rhs_same : (d : ℕ) → d < length p.linears → rhs_in s.old s.new s.rhss d ≡ rhs_of p d
  rhs_same d l = sym (ap (λ (x : Definition). x.rhs) (definition d (omega (arith, l, count))))

  pub dst_same : (d : ℕ) → d < length p.linears → get_or s.dsts d 0 ≡ dst_of p d
  dst_same d l = sym (ap (λ (x : Definition). x.dst) (definition d (omega (arith, l, count))))

  pub small : All (λ (d : ℕ). d < 4096) (destinations p.linears)
  small =
      subst (All (λ (d : ℕ). d < 4096)) (sym (destinations_model z s there.dsts_there there.rhss_there))
      (dsts_small z s (checked z s (memory_places 8192 z s e)) (memory_wires 8192 z s e))

  -- the table that the program makes
  pub table_made : numbered 0 (take z.linears s.dsts) (replicate 4096 0) ≡ table_of 4096 p
  table_made = ap (λ (ds : List ℕ). numbered 0 ds (replicate 4096 0)) (sym (destinations_model z s there.dsts_there there.rhss_there))

  pub all_there : (d : ℕ) → d < z.linears → There s.old s.new s.rhss 1024 d
  all_there d l =
      let y = checked z s (memory_places 8192 z s e) in (
        omega (arith, l, memory_definitions 8192 z s e),
        omega (arith, l, there.rhss_there),
        part_all s.rhss z.linears d 0 (stand z s y (take z.linears s.rhss) y.rhss_sound) l there.rhss_there,
      )

  module _ (once : Once p.linears) where
    pub sound : Sound s.old s.new s.rhss (table_of 4096 p) 1024
    sound w d h = all_there d (omega (arith, (found_at p 4096 once small w d h).under, count))

    pub record Ends (w : Walked) : Type 0 where
      pub circle : w.circle ≡ true → (x : ℕ) × Reaches p x x
      pub no_circle : w.circle ≡ false → NoCircle p
      pub posted : w.circle ≡ false → Posted (rhs_in s.old s.new s.rhss) (table_of 4096 p) (order_of w)
      pub whole : w.circle ≡ false → (d : ℕ) → d < length p.linears → Memᴰ d (order_of w)
      pub only : w.circle ≡ false → (d : ℕ) → Memᴰ d (order_of w) → d < length p.linears

    pub ends : (order : List ℕ) → 1024 ≤ length order → Ends (walk_of (rhs_in s.old s.new s.rhss) (table_of 4096 p) z.linears (replicate 1024 0) order)
    ends order long =
        let rhs = rhs_in s.old s.new s.rhss in
        let few : length p.linears ≤ 1024 = omega (arith, count, memory_definitions 8192 z s e) in
        let r = walk_right rhs (table_of 4096 p) (length p.linears) 1024 order few long (λ w d h. (found_at p 4096 once small w d h).under) in
        subst (λ (n : ℕ). Ends (walk_of (rhs_in s.old s.new s.rhss) (table_of 4096 p) n (replicate 1024 0) order)) count
        (record {
          circle = λ o. circle_reaches p 4096 once small rhs rhs_same (r.circle o);
          no_circle = λ o. order_none p 4096 once small rhs rhs_same (order_of (walk_of rhs (table_of 4096 p) (length p.linears) (replicate 1024 0) order)) (r.posted o) (r.whole o);
          posted = r.posted;
          whole = r.whole;
          only = r.only;
        })
