-- From what the walk and the decisions leave to what fusing answers. Assumes nothing.
use mathlib.Core.Path.{◌≡◌, refl, sym, ap, ◌∙◌, subst}
use Prim.Native.Nat.{ℕ, ◌≤◌, ◌<◌}
use native.Mathlib.Omega.{arith}
use mathlib.Core.Bool.{Bool, true, false, not, ◌||◌, ◌&&◌}
use mathlib.Core.List.{List, Memᴰ}
use lib.Dec.{ltb, leb}
use borrow.Author.Tests.{leb-true, leb-false, not-true, not-false, lt-ltb, le-ltb}
use lib.ListN.{length, take, drop, replicate, length-replicate, length-drop}
use Rattle.lower.specs.declared.Sizes.{Sizes}
use Rattle.lower.specs.Accepted.{Once, NoCircle}
use Rattle.lower.specs.Stores.{Stores, system_of}
use Rattle.lower.specs.Faults.{memory_fault}
use Rattle.lower.proofs.Checks.{memory_definitions}
use Rattle.legraph.specs.declared.Walk.{Walk}
use Rattle.legraph.specs.Orders.{Posted}
use Rattle.legraph.specs.Tables.{numbered}
use Rattle.legraph.specs.Walked.{Walked, walk_of, rhs_in}
use Rattle.legraph.proofs.Theorem.{count, small, rhs_same, table_made}
use Rattle.commit_set.specs.Numbers.{state_at}
use Rattle.commit_set.specs.Orders.{InOrder}
use Rattle.commit_set.specs.Answer.{decision_fault, Solution}
use Rattle.commit_set.proofs.Ordering.{in_order}
use Rattle.commit_set.proofs.Answers.{memory_none, once, slots_few}
use Rattle.commit_set.proofs.Theorem.{decided_accepted}
use Rattle.reach.proofs.Ordered.{straight_by, walk_orders}
use Rattle.patch.specs.declared.Cursor.{Cursor}
use Rattle.patch.specs.Patch.{terms_written, rebuilds}
use Rattle.fusion.specs.declared.Counts.{Counts}
use Rattle.std.specs.Prelude.{Ok, Err}
use Rattle.refusal.specs.declared.Refusal.{Refusal}
use Rattle.refusal.specs.declared.Refusal.TheVariants.{Room}
use Rattle.fusion.specs.Left.{Lent, input, output, fused, has_room, counts_of, sizes_after, leaves}
use Rattle.fusion.specs.Answer.{told_fused, Fuses, circular, short, patches}
use Rattle.fusion.proofs.System.{system_left}
use Rattle.fusion.proofs.Making.{cursor_over, rebuilt-fits, rebuilt_holds}
use Rattle.fusion.specs.Steps.{Ready, Ordered, chosen, Holds, Rebuilt, lacks_room, Prepared, Prepares, circular as is_circular, prepared as is_prepared}

-- ---- the walk

module _ (slots : ℕ) (z : Sizes) (s : Stores) (f : decision_fault slots z s ≡ 0) where
  abbrev made : List ℕ
  made = numbered 0 (take z.linears s.dsts) (replicate 4096 0)

  abbrev walked : Walked
  walked = walk_of (rhs_in s.old s.new s.rhss) made z.linears (replicate 1024 0) (replicate 1024 0)

  -- a walk that has met no circle leaves an order
  module _ (c : Walk) (table order : List ℕ) (l : c.left ≡ walked.left) (b : c.circle ≡ walked.circle) (o : order ≡ walked.order) (h : c.circle ≡ false) where
    pub ordered : table ≡ made → length order ≡ 1024 → Ordered z s table (drop c.left order)
    ordered t n =
        let w = walk_orders z s (memory_none slots z s f) (replicate 1024 0) (once slots z s f) (omega (arith, length-replicate {A = ℕ} 1024 0)) (sym b ∙ h) c.left order l o in
        record { table_is = t; named = w.0; few = omega (arith, n, length-drop c.left order) }

  module _ (table order : List ℕ) (k : Ordered z s table order) where
    in_turn : InOrder (system_of z s) (λ d. false) order
    in_turn =
        let e = memory_none slots z s f in
        in_order (system_of z s) 4096 (once slots z s f) (small z s e) (rhs_in s.old s.new s.rhss) (rhs_same z s e) order
        (subst (λ (t : List ℕ). Posted (rhs_in s.old s.new s.rhss) t order) (table_made z s e) k.named.posted)
        (λ d l. k.named.whole d (omega (arith, l, count z s e))) (λ d m. omega (arith, k.named.only d m, count z s e))

    -- n is the length of the store of decisions
    pub decide_asks : (n : ℕ) → n ≡ 1024
        → (memory_fault 8192 z s ≡ 0)
        × (Once (system_of z s).linears × ((table ≡ made) × (InOrder (system_of z s) (λ d. false) order × (((d : ℕ) → Memᴰ d order → d < z.linears) × (length order < 65536) × (z.linears ≤ n)))))
    decide_asks n q =
        (memory_none slots z s f, (once slots z s f, (k.table_is, (in_turn, (k.named.only, k.few, omega (arith, memory_definitions 8192 z s (memory_none slots z s f), q))))))

    pub no_circle : NoCircle (system_of z s)
    no_circle = straight_by z s (memory_none slots z s f) (once slots z s f) order k.named

-- ---- what is decided

module _ (slots : ℕ) (z : Sizes) (s : Stores) (f : decision_fault slots z s ≡ 0) (table order : List ℕ) (k : Ordered z s table order)
    (ds ds' : List ℕ) (y : Solution slots (system_of z s) ds ds') (n : length ds ≡ 1024) where
  pub long_is : z.linears ≤ length ds'
  long_is = omega (arith, memory_definitions 8192 z s (memory_none slots z s f), n, y.long)

  pub ready : Ready z s ds'
  ready = record {
    slots = slots;
    fault = f;
    no_circle = no_circle slots z s f table order k;
    solves = y.solves;
    long = long_is;
  }

-- ---- what is prepared

-- a refusal, where nothing was patched
pub not_prepared : {slots : ℕ} {z : Sizes} {l : Lent} {t ds m o h o' h' : List ℕ} {r : Refusal} → Prepares slots z (input l) t ds m o h o' h' (Err r) → Fuses slots z l l (told_fused (Err r))
unfolding told_fused
not_prepared (is_circular f w x) = circular f w x refl

pub was_prepared : {slots : ℕ} {z : Sizes} {s : Stores} {t ds m o h o' h' : List ℕ} {c : Cursor} → Prepares slots z s t ds m o h o' h' (Ok c)
    → (decision_fault slots z s ≡ 0) × Prepared slots z s t ds m o h o' h' c
was_prepared (is_prepared f p) = (f, p)

module _ (slots : ℕ) (z : Sizes) (l : Lent) (t ds m o h o' h' : List ℕ) (c : Cursor) (f : decision_fault slots z (input l) ≡ 0) (p : Prepared slots z (input l) t ds m o h o' h' c) where
  pub ready_by : Ready z (input l) ds
  ready_by = record { slots = slots; fault = f; no_circle = p.no_circle; solves = p.solves; long = p.long }

  pub short_by : has_room (fused z l) (chosen z (input l) ds) l ≡ false → Fuses slots z l l (told_fused (Err Room))
  unfolding told_fused
  short_by lacks = short f p.no_circle (state_at ds) p.solves lacks refl

  pub patched_by : (l' : Lent) (k : Counts) → has_room (fused z l) (chosen z (input l) ds) l ≡ true → l' ≡ leaves z l (chosen z (input l) ds)
      → k ≡ counts_of (fused z l) (chosen z (input l) ds) → Fuses slots z l l' (told_fused (Ok k))
  patched_by l' k has left e =
      rw e
      (patches f p.no_circle (state_at ds)
      (record {
        solves = p.solves;
        fits = has;
        left = left;
        system = ap (λ (x : Lent). system_of (sizes_after (fused z l) (chosen z (input l) ds) z) (output x)) left
            ∙ system_left slots z l (state_at ds) (memory_none slots z (input l) f) (decided_accepted slots z (input l) f p.no_circle) p.solves (slots_few slots z (input l) f) has;
      }))

-- ---- room

tested : (a b : ℕ) (t : Bool) → leb a b ≡ t → ltb b a ≡ not t
tested a b true e = le-ltb b a (leb-true a b e)
tested a b false e = lt-ltb b a (leb-false a b e)

neither : (a b : Bool) → (not a || not b) ≡ not (a && b)
neither true b = refl
neither false b = refl

wires_are : (z : Sizes) (l : Lent) → (fused z l).wires ≡ z.wires
unfolding system_of
wires_are z l = refl

module _ (z : Sizes) (l : Lent) (c : ℕ → Bool) (out list out' list' : List ℕ) (b : Cursor) (m : Rebuilt (fused z l) c out list out' list' b) (e : length out ≡ 16384) where
  room : (t : Bool) → leb (terms_written (fused z l) c) 16384 ≡ t → lacks_room b (length l.new) (length l.flags) z.wires
      ≡ not (t && (leb (terms_written (fused z l) c) (length l.new) && leb (fused z l).wires (length l.flags)))
  unfolding lacks_room
  room true q =
      let k : terms_written (fused z l) c ≤ length out = omega (arith, leb-true (terms_written (fused z l) c) 16384 q, e) in
      rw (rebuilt-fits (fused z l) c out list out' list' b m k, tested (terms_written (fused z l) c) (length l.new) _ refl, tested z.wires (length l.flags) _ refl)
      (neither (leb (terms_written (fused z l) c) (length l.new)) (leb z.wires (length l.flags))
      ∙ ap (λ (w : ℕ). not (leb (terms_written (fused z l) c) (length l.new) && leb w (length l.flags))) (sym (wires_are z l)))
  room false q = rw (m.cursor ∙ cursor_over (length out) (terms_written (fused z l) c) (omega (arith, leb-false (terms_written (fused z l) c) 16384 q, e)))

  room_is : lacks_room b (length l.new) (length l.flags) z.wires ≡ not (has_room (fused z l) c l)
  unfolding has_room
  room_is = room (leb (terms_written (fused z l) c) 16384) refl

  pub room_lacks : lacks_room b (length l.new) (length l.flags) z.wires ≡ true → has_room (fused z l) c l ≡ false
  room_lacks q = not-true (has_room (fused z l) c l) (sym room_is ∙ q)

  pub room_has : lacks_room b (length l.new) (length l.flags) z.wires ≡ false → has_room (fused z l) c l ≡ true
  room_has q = not-false (has_room (fused z l) c l) (sym room_is ∙ q)

  first : (x y : Bool) → (x && y) ≡ true → x ≡ true
  first true y q = refl
  first false y q = q

  pub room_holds : length list ≡ 7168 → length (rebuilds (fused z l) c) ≤ 7168 → has_room (fused z l) c l ≡ true → Holds (fused z l) c (take b.count out') list'
  unfolding has_room
  room_holds n k q =
      rebuilt_holds (fused z l) c out list out' list' b m (omega (arith, leb-true (terms_written (fused z l) c) 16384 (first (leb (terms_written (fused z l) c) 16384) _ q), e)) (omega (arith, n, k))
