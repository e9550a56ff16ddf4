-- The masks of a system in stores, made in an order of its definitions. Assumes nothing.
use mathlib.Core.Path.{◌≡◌, refl, sym, ap, ◌∙◌, subst}
use Prim.Native.Nat.{ℕ, ◌*◌, ◌≤◌, ◌<◌}
use native.Mathlib.Omega.{arith}
use mathlib.Core.List.{List, [], ◌∷◌, ◌++◌, Memᴰ}
use lib.ListN.{length, get_or, take, replicate, length-replicate}
use lib.Seq.{length-take-le}
use Rattle.std.proofs.lemmas.List.{get_or-take}
use Rattle.operand.specs.Numbers.{operand_of}
use Rattle.alive.specs.Masks.{ones}
use Rattle.lower.specs.declared.Sizes.{Sizes}
use Rattle.lower.specs.Lists.{All}
use Rattle.lower.specs.Model.{Definition, System, terms_of, row_operands}
use Rattle.lower.specs.Accepted.{Single, Once, NoCircle}
use Rattle.lower.specs.Stores.{Stores, system_of, row_handles, Stands}
use Rattle.lower.specs.Faults.{memory_fault}
use Rattle.lower.specs.Explained.{Standing}
use Rattle.lower.proofs.Laws.{rows_model, all_left, all_right}
use Rattle.lower.proofs.Alls.{all_unjoin, all_unmap}
use Rattle.lower.proofs.Checks.{checked, dsts_small, memory_places, memory_wires}
use Rattle.lower.proofs.Explains.{standing_right}
use Rattle.legraph.specs.Uses.{dst_of, no_definition}
use Rattle.legraph.specs.Orders.{Posted}
use Rattle.legraph.specs.Walked.{rhs_in}
use Rattle.legraph.proofs.Listing.{table_of}
use Rattle.legraph.specs.Tables.{numbered}
use Rattle.legraph.proofs.Circles.{order_none}
use Rattle.legraph.proofs.Theorem.{count, rhs_same, dst_same, small, table_made, all_there}
use Rattle.commit_set.specs.Numbers.{state_at}
use Rattle.commit_set.proofs.Members.{all_get, all_roots, all_terms, all_rhs}
use Rattle.patch.specs.Patch.{commit_set, inlined}
use Rattle.patch.proofs.Parts.{all_each, all_two, all_members}
use Rattle.reach.specs.Alive.{IsAlive, AliveIn}
use Rattle.reach.specs.Reach.{IsReach, ReachIn}
use Rattle.reach.specs.Steps.{Held, held, Gathered, Filled, Order, Pullable, rhs_at, mask_at, alive_from, pull_operands, reach_from, Usable, Able}
use Rattle.reach.proofs.Writing.{alive_only}
use Rattle.reach.proofs.Masking.{Holds, get_d_any, alive_length, masks_alive}
use Rattle.reach.proofs.Sums.{masks_reach}

pub operands_join : (old new a b l : List ℕ) → pull_operands old new (a ++ b) l ≡ pull_operands old new b (pull_operands old new a l)
unfolding pull_operands
operands_join old new [] b l = refl
operands_join old new (h ∷ a) b l = operands_join old new a b _

-- the list of destinations is cut to the definitions
module _ {n : ℕ} (dsts : List ℕ) (long : n ≤ length dsts) where
  pub gather_cut : {masks masks2 out : List ℕ} → masks ≡ masks2 → Gathered (length (take n dsts)) (take n dsts) masks out → Gathered n dsts masks2 out
  gather_cut {masks} {masks2} {out} e g = record {
    gathered = λ d l. g.gathered d (omega (arith, l, length-take-le n dsts long)) ∙ ap (mask_at masks) (get_or-take n dsts d 0 l) ∙ ap (λ (m : List ℕ). mask_at m (get_or dsts d 0)) e;
  }

  pub fill_cut : {before out : List ℕ} → Filled (length (take n dsts)) before out → Filled n before out
  fill_cut {before} {out} f = subst (λ (m : ℕ). Filled m before out) (length-take-le n dsts long) f

module _ (z : Sizes) (s : Stores) (e : memory_fault 8192 z s ≡ 0) (decisions : List ℕ) where
  abbrev p : System
  p = system_of z s

  abbrev h : Held
  h = held s.old s.new s.dsts s.rhss decisions

  right : Standing z s 8192
  right = (standing_right 8192 z s).0 e

  few : p.wires ≤ 4096
  few = right.1.wires_few

  holds : Holds h p
  holds = record { rhs_is = rhs_same z s e; dst_is = dst_same z s e }

  terms_usable : All (Usable 4096) (terms_of p)
  terms_usable = all_two (λ t a b. (omega (arith, a, few), b.0)) right.0.1.terms_named right.0.2

  rhs_usable : (d : ℕ) → d < length p.linears → All (Usable 4096) (rhs_at h d)
  rhs_usable d l = subst (All (Usable 4096)) (sym (rhs_same z s e d l)) (all_rhs (Usable 4096) p d l (all_terms (Usable 4096) p terms_usable))

  dst_named : (d : ℕ) → d < length p.linears → dst_of p d < p.wires
  dst_named d l = all_get (λ (x : Definition). x.dst < p.wires) p.linears d no_definition right.0.1.destinations_named l

  pub row_usable : All (λ (g : ℕ). All (Usable 4096) (operand_of s.old s.new g)) (row_handles z s.ands s.imuls s.bmuls s.zeros)
  row_usable =
      all_unmap (All (Usable 4096)) (operand_of s.old s.new) (row_handles z s.ands s.imuls s.bmuls s.zeros)
      (subst (All (All (Usable 4096))) (rows_model z s) (all_unjoin (Usable 4096) (row_operands p) (all_roots (Usable 4096) p terms_usable)))

  -- what the program needs of each definition
  pub able : z.linears ≤ length decisions → (d : ℕ) → d < z.linears → Able h 4096 d
  able long d l =
      let k : d < length p.linears = omega (arith, l, count z s e) in
      record {
        right_side = omega (arith, l, right.0.0.rhss_there);
        destination = omega (arith, l, right.0.0.dsts_there);
        decided = omega (arith, l, long);
        place = omega (arith, dst_same z s e d k, dst_named d k, few);
        stands = (all_there z s e d l).2;
        usable = rhs_usable d k;
      }

  module _ (once : Once p.linears) (ds : List ℕ) (o : Posted (rhs_in s.old s.new s.rhss) (table_of 4096 p) ds)
      (below : (d : ℕ) → Memᴰ d ds → d < length p.linears) (whole : (d : ℕ) → d < length p.linears → Memᴰ d ds) where
    -- THE THEOREMS
    pub alive_made : IsAlive (inlined p (commit_set p (state_at decisions))) (λ w. get_or (alive_from h ds (replicate 4096 ones)) w ones)
    alive_made =
        masks_alive h p 4096 once (small z s e) holds 4096 (λ d l. omega (arith, dst_named d l, few))
        (λ d l. all_each (λ u k. k.0) (subst (All (Usable 4096)) (rhs_same z s e d l) (rhs_usable d l))) ds o below whole

    pub reach_made : Single p → IsReach p (commit_set p (state_at decisions)) (mask_at (reach_from h ds (pull_operands s.old s.new (row_handles z s.ands s.imuls s.bmuls s.zeros) (replicate 4096 0))))
    reach_made single =
        masks_reach h p 4096 once (small z s e) holds 4096 rhs_usable dst_named single right.0.2
        (row_handles z s.ands s.imuls s.bmuls s.zeros) (rows_model z s) row_usable ds o below whole

  -- ---- the answers of the program

  module _ (once : Once p.linears) (ds : List ℕ) (o : Order (rhs_in s.old s.new s.rhss) (numbered 0 (take z.linears s.dsts) (replicate 4096 0)) z.linears ds) where
    ordered : Posted (rhs_in s.old s.new s.rhss) (table_of 4096 p) ds
    ordered = subst (λ (t : List ℕ). Posted (rhs_in s.old s.new s.rhss) t ds) (table_made z s e) o.posted

    below : (d : ℕ) → Memᴰ d ds → d < length p.linears
    below d k = omega (arith, o.only d k, count z s e)

    whole : (d : ℕ) → d < length p.linears → Memᴰ d ds
    whole d l = o.whole d (omega (arith, l, count z s e))

    no_circle : NoCircle p
    no_circle = order_none p 4096 once (small z s e) (rhs_in s.old s.new s.rhss) (rhs_same z s e) ds ordered whole

    pub all_able : z.linears ≤ length decisions → All (Able h 4096) ds
    all_able long = all_members ds (λ d k. able long d (o.only d k))

    pub alive_answer : (out : List ℕ) → Gathered z.linears s.dsts (alive_from h ds (replicate 4096 ones)) out
        → AliveIn p (commit_set p (state_at decisions)) z.linears s.dsts out
    alive_answer out g d l =
        let k : d < length p.linears = omega (arith, l, count z s e) in
        g.gathered d l ∙ get_d_any (alive_from h ds (replicate 4096 ones)) (get_or s.dsts d 0) 0 ones (omega (arith, dst_same z s e d k, dst_named d k, few, long))
        ∙ alive_only p (commit_set p (state_at decisions)) no_circle (λ w. get_or (alive_from h ds (replicate 4096 ones)) w ones) (alive_made once ds ordered below whole) (get_or s.dsts d 0)
      where
        long : length (alive_from h ds (replicate 4096 ones)) ≡ 4096
        long = alive_length h ds (replicate 4096 ones) ∙ length-replicate {A = ℕ} 4096 ones

    pub reach_answer : Single p → (out : List ℕ)
        → Gathered z.linears s.dsts (reach_from h ds (pull_operands s.old s.new (row_handles z s.ands s.imuls s.bmuls s.zeros) (replicate 4096 0))) out
        → ReachIn p (commit_set p (state_at decisions)) z.linears s.dsts out
    reach_answer single out g = record {
      reach = mask_at (reach_from h ds (pull_operands s.old s.new (row_handles z s.ands s.imuls s.bmuls s.zeros) (replicate 4096 0)));
      is_reach = reach_made once ds ordered below whole single;
      stands_in = g.gathered;
    }

  -- the rows
  stand_rows : All (Stands s.old s.new) (row_handles z s.ands s.imuls s.bmuls s.zeros)
  stand_rows = all_left (Stands s.old s.new) (row_handles z s.ands s.imuls s.bmuls s.zeros) (take z.linears s.rhss) right.0.0.operands_there

  module _ {P : ℕ → Type 0} (a : All P (row_handles z s.ands s.imuls s.bmuls s.zeros)) where
    pub ands_part : All P (take (3 * z.ands) s.ands)
    unfolding row_handles
    ands_part = all_left P (take (3 * z.ands) s.ands) _ a

    pub imuls_part : All P (take (4 * z.imuls) s.imuls)
    unfolding row_handles
    imuls_part = all_left P (take (4 * z.imuls) s.imuls) _ (all_right P (take (3 * z.ands) s.ands) _ a)

    pub bmuls_part : All P (take (6 * z.bmuls) s.bmuls)
    unfolding row_handles
    bmuls_part = all_left P (take (6 * z.bmuls) s.bmuls) _ (all_right P (take (4 * z.imuls) s.imuls) _ (all_right P (take (3 * z.ands) s.ands) _ a))

    pub zeros_part : All P (take z.zeros s.zeros)
    unfolding row_handles
    zeros_part = all_right P (take (6 * z.bmuls) s.bmuls) _ (all_right P (take (4 * z.imuls) s.imuls) _ (all_right P (take (3 * z.ands) s.ands) _ a))

  pub ands_pull : Pullable s.old s.new 4096 s.ands (3 * z.ands)
  ands_pull = record { there = right.0.0.ands_there; standing = ands_part stand_rows; fit = ands_part row_usable }

  pub imuls_pull : Pullable s.old s.new 4096 s.imuls (4 * z.imuls)
  imuls_pull = record { there = right.0.0.imuls_there; standing = imuls_part stand_rows; fit = imuls_part row_usable }

  pub bmuls_pull : Pullable s.old s.new 4096 s.bmuls (6 * z.bmuls)
  bmuls_pull = record { there = right.0.0.bmuls_there; standing = bmuls_part stand_rows; fit = bmuls_part row_usable }

  pub zeros_pull : Pullable s.old s.new 4096 s.zeros z.zeros
  zeros_pull = record { there = right.0.0.zeros_there; standing = zeros_part stand_rows; fit = zeros_part row_usable }

  pub dsts_low : All (λ (w : ℕ). w < 4096) (take z.linears s.dsts)
  dsts_low = dsts_small z s (checked z s (memory_places 8192 z s e)) (memory_wires 8192 z s e)

  pub dsts_long : z.linears ≤ length s.dsts
  dsts_long = right.0.0.dsts_there

-- four lists of operands, one after the other
pub rows_chain : (z : Sizes) (old new ands imuls bmuls zeros l a b c d : List ℕ) → a ≡ pull_operands old new (take (3 * z.ands) ands) l → b ≡ pull_operands old new (take (4 * z.imuls) imuls) a
    → c ≡ pull_operands old new (take (6 * z.bmuls) bmuls) b → d ≡ pull_operands old new (take z.zeros zeros) c → d ≡ pull_operands old new (row_handles z ands imuls bmuls zeros) l
unfolding row_handles
rows_chain z old new ands imuls bmuls zeros l a b c d p q r t =
    t ∙ ap (pull_operands old new (take z.zeros zeros)) r
    ∙ sym (operands_join old new (take (6 * z.bmuls) bmuls) (take z.zeros zeros) b) ∙ ap (pull_operands old new (take (6 * z.bmuls) bmuls ++ take z.zeros zeros)) q
    ∙ sym (operands_join old new (take (4 * z.imuls) imuls) (take (6 * z.bmuls) bmuls ++ take z.zeros zeros) a)
    ∙ ap (pull_operands old new (take (4 * z.imuls) imuls ++ (take (6 * z.bmuls) bmuls ++ take z.zeros zeros))) p
    ∙ sym (operands_join old new (take (3 * z.ands) ands) (take (4 * z.imuls) imuls ++ (take (6 * z.bmuls) bmuls ++ take z.zeros zeros)) l)
