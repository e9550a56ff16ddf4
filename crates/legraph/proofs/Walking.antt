-- The walk ends with every definition before all that it names, or shows one that leads to itself.
-- Assumes nothing.
use mathlib.Core.Path.{◌≡◌, refl, sym, ap, ◌∙◌, subst}
use Prim.Native.Nat.{ℕ, zero, suc, ◌+◌, ◌-◌, ◌≤◌, ◌<◌}
use mathlib.Core.List.Memᴰ
use mathlib.Core.List.{List, [], ◌∷◌, Memᴰ}
use mathlib.Core.Bool.{true, false}
use mathlib.Core.Logic.{◌⊎◌, inl, inr, ⊎_elim}
use native.Mathlib.Omega.{arith}
use lib.ListN.{length, get_or, set, drop, length-set, replicate, length-replicate}
use lib.Seq.{get_or-set_same, get_or-set_other, drop-set-lt, drop-cons, drop-length}
use lib.Dec.{eqb}
use borrow.Author.Tests.{eqb-true, eqb-false}
use Rattle.operand.specs.Numbers.{Term, Operand}
use Rattle.legraph.specs.Walked.{Walked, enter, over, opened, visit, walk_from, begun, walk_of, unmarked, order_of}
use Rattle.legraph.specs.Orders.{Link, Leads, directly, onward, Circle, Posted, done, more}
use Rattle.legraph.proofs.Cases.{by_test, same_or_not, clash, zero_at}
use Rattle.legraph.proofs.Walks.{fewer, remarked, enter-none, enter_circle, enter_new, enter_open, enter-done, closed_circle, closed-done}

abbrev mark : Walked → ℕ → ℕ
mark w e = get_or w.marks e 0

drop-set_here : (l : List ℕ) (i a : ℕ) → i < length l → drop i (set l i a) ≡ a ∷ drop (i + 1) l
drop-set_here l i a h =
    let e : suc i ≡ i + 1 = omega arith in
    drop-cons (set l i a) i 0 (subst (λ (n : ℕ). i < n) (sym (length-set l i a)) h)
    ∙ rw (get_or-set_same l i a 0 h, drop-set-lt (suc i) l i a (omega arith), e)

-- n definitions
module _ (rhs : ℕ → Operand) (table : List ℕ) (n : ℕ) where
  -- what holds where no circle was met
  record Fine (w : Walked) : Type 0 where
    small : (e : ℕ) → mark w e ≤ 2
    room : unmarked w.marks ≤ w.left
    fits : w.left ≤ length w.order
    posted : Posted rhs table (order_of w)
    stands : (e : ℕ) → mark w e ≡ 2 → Memᴰ e (order_of w)
    marked : (e : ℕ) → Memᴰ e (order_of w) → mark w e ≡ 2
    below : (e : ℕ) → Memᴰ e (order_of w) → e < n

  -- what a step has done
  record Did (w w' : Walked) : Type 0 where
    long : length w'.marks ≡ length w.marks
    same : (e : ℕ) → (mark w e ≡ 0 → ⊥) → mark w' e ≡ mark w e
    few : unmarked w'.marks ≤ unmarked w.marks
    live : w'.circle ≡ false → w.circle ≡ false
    fine : w'.circle ≡ false → Fine w'
    even : w'.circle ≡ false → w'.left + unmarked w.marks ≡ w.left + unmarked w'.marks
    opens : w'.circle ≡ false → (e : ℕ) → mark w' e ≡ 1 → mark w e ≡ 1

  did_none : (w : Walked) → (w.circle ≡ false → Fine w) → Did w w
  did_none w g = record { long = refl; same = λ e h. refl; few = omega arith; live = λ o. o; fine = g; even = λ o. refl; opens = λ o e h. h }

  did_both : (a b c : Walked) → Did a b → Did b c → Did a c
  did_both a b c p q =
      record {
        long = q.long ∙ p.long;
        same = λ e h. q.same e (λ z. h (sym (p.same e h) ∙ z)) ∙ p.same e h;
        few = omega (arith, p.few, q.few);
        live = λ o. p.live (q.live o);
        fine = q.fine;
        even = λ o. omega (arith, p.even (q.live o), q.even o);
        opens = λ o e h. p.opens (q.live o) e (q.opens o e h);
      }

  -- what a visit of d has done
  record Visited (w w' : Walked) (d : ℕ) : Type 0 where
    did : Did w w'
    met : w'.circle ≡ false → mark w' d ≡ 2
    found : w'.circle ≡ true → Circle rhs table

  -- a definition can be visited
  record Ready (m f : ℕ) (w : Walked) (d : ℕ) : Type 0 where
    deep : unmarked w.marks ≤ f
    many : length w.marks ≡ m
    there : d < n
    new : mark w d ≡ 0
    alive : w.circle ≡ false
    right : Fine w
    above : (e : ℕ) → mark w e ≡ 1 → Leads rhs table e d

  -- opening d
  fine_opened : (w : Walked) (d : ℕ) → d < length w.marks → mark w d ≡ 0 → Fine w → Fine (opened w d)
  fine_opened w d l z g =
      let m = w.marks in
      record {
        small = λ e. same_or_not e d (λ q. omega (arith, ap (λ (k : ℕ). get_or (set m d 1) k 0) q, get_or-set_same m d 1 0 l)) (λ q. omega (arith, get_or-set_other m d e 1 0 q, g.small e));
        room = omega (arith, g.room, fewer m d 0 l z);
        fits = g.fits;
        posted = g.posted;
        stands = λ e h. same_or_not e d (λ q. absurd (omega (arith, h, ap (λ (k : ℕ). get_or (set m d 1) k 0) q, get_or-set_same m d 1 0 l))) (λ q. g.stands e (sym (get_or-set_other m d e 1 0 q) ∙ h));
        marked = λ e h. get_or-set_other m d e 1 0 (λ q. omega (arith, g.marked e h, ap (λ (k : ℕ). get_or m k 0) q, z)) ∙ g.marked e h;
        below = g.below;
      }

  -- closing d, which is open and whose links are all done
  fine_closed : (w : Walked) (d : ℕ) → d < n → d < length w.marks → mark w d ≡ 1 → unmarked w.marks < w.left → Fine w
      → ((e : ℕ) → Link rhs table d e → mark w e ≡ 2) → Fine (record { marks = set w.marks d 2; order = set w.order (w.left - 1) d; left = w.left - 1; circle = false })
  fine_closed w d b l z r g below =
      let m = w.marks in
      let e : w.left - 1 + 1 ≡ w.left = omega arith in
      let order : drop (w.left - 1) (set w.order (w.left - 1) d) ≡ d ∷ order_of w = drop-set_here w.order (w.left - 1) d (omega (arith, g.fits)) ∙ ap (λ (k : ℕ). d ∷ drop k w.order) e in
      let other : (e : ℕ) → Memᴰ e (order_of w) → e ≡ d → ⊥ = λ e h q. omega (arith, g.marked e h, ap (λ (k : ℕ). get_or m k 0) q, z) in
      record {
        small = λ e. same_or_not e d (λ q. omega (arith, ap (λ (k : ℕ). get_or (set m d 2) k 0) q, get_or-set_same m d 2 0 l)) (λ q. omega (arith, get_or-set_other m d e 2 0 q, g.small e));
        room = omega (arith, remarked m d 1 (λ q. omega (arith, q, z)), r);
        fits = omega (arith, g.fits, length-set w.order (w.left - 1) d);
        posted = subst (Posted rhs table) (sym order) (more (λ h. other d h refl) (λ e k. g.stands e (below e k)) g.posted);
        stands = λ e h. subst (Memᴰ e) (sym order) (same_or_not e d (λ q. Memᴰ.head q) (λ q. Memᴰ.tail (g.stands e (sym (get_or-set_other m d e 2 0 q) ∙ h))));
        marked = λ e h. in_closed e (subst (Memᴰ e) order h) (other e);
        below = λ e h. in_below e (subst (Memᴰ e) order h);
      }
    where
      in_closed : (e : ℕ) → Memᴰ e (d ∷ order_of w) → (Memᴰ e (order_of w) → e ≡ d → ⊥) → get_or (set w.marks d 2) e 0 ≡ 2
      in_closed e (Memᴰ.head q) k = ap (λ (x : ℕ). get_or (set w.marks d 2) x 0) q ∙ get_or-set_same w.marks d 2 0 l
      in_closed e (Memᴰ.tail h) k = get_or-set_other w.marks d e 2 0 (k h) ∙ g.marked e h

      in_below : (e : ℕ) → Memᴰ e (d ∷ order_of w) → e < n
      in_below e (Memᴰ.head q) = subst (λ (k : ℕ). k < n) (sym q) b
      in_below e (Memᴰ.tail h) = g.below e h

  module _ (m f : ℕ) (named : (x d : ℕ) → get_or table x 0 ≡ suc d → d < n) (visits : (w : Walked) (d : ℕ) → Ready m f w d → Visited w (visit f rhs table w d) d) where
    -- what entering a node has done
    record Entered (w w' : Walked) (x : ℕ) : Type 0 where
      did : Did w w'
      met : w'.circle ≡ false → (d : ℕ) → x ≡ suc d → mark w' d ≡ 2
      found : w'.circle ≡ true → Circle rhs table

    record State (w : Walked) : Type 0 where
      deep : unmarked w.marks ≤ f
      many : length w.marks ≡ m
      right : w.circle ≡ false → Fine w
      known : w.circle ≡ true → Circle rhs table

    entered : (w : Walked) (x : ℕ) → State w → ((d : ℕ) → x ≡ suc d → d < n) → (w.circle ≡ false → (d : ℕ) → x ≡ suc d → (e : ℕ) → mark w e ≡ 1 → Leads rhs table e d) → Entered w (enter (visit f rhs table) w x) x
    entered w zero s b up =
        subst (λ (v : Walked). Entered w v zero) (enter-none (visit f rhs table) w zero refl)
        (record { did = did_none w s.right; met = λ o d e. absurd (omega (arith, e)); found = s.known })
    entered w (suc d) s b up =
        let P : Walked → Type 0 = λ (v : Walked). Entered w v (suc d) in
        let back : (k : ℕ) → suc d ≡ suc k → d ≡ k = λ k e. omega (arith, e) in
        by_test w.circle
        (λ on. subst P (enter_circle (visit f rhs table) w (suc d) d refl on) (record { did = did_none w s.right; met = λ o k e. clash on o; found = s.known }))
        (λ off. by_test (eqb (mark w d) 0)
        (λ z. let v = visits w d (record { deep = s.deep; many = s.many; there = b d refl; new = eqb-true _ _ z; alive = off; right = s.right off; above = up off d refl }) in
        subst P (enter_new (visit f rhs table) w (suc d) d refl off (eqb-true _ _ z))
        (record { did = v.did; met = λ o k e. subst (λ (j : ℕ). mark (visit f rhs table w d) j ≡ 2) (back k e) (v.met o); found = v.found }))
        (λ z. by_test (eqb (mark w d) 1)
        (λ y. subst P (enter_open (visit f rhs table) w (suc d) d refl off (eqb-false _ _ z) (eqb-true _ _ y))
        (record {
          did = record { long = refl; same = λ e h. refl; few = omega arith; live = λ o. clash refl o; fine = λ o. clash refl o; even = λ o. clash refl o; opens = λ o. clash refl o };
          met = λ o. clash refl o;
          found = λ o. (d, up off d refl d (eqb-true _ _ y));
        }))
        (λ y. subst P (enter-done (visit f rhs table) w (suc d) d refl off (eqb-false _ _ z) (eqb-false _ _ y))
        (record {
          did = did_none w s.right;
          met = λ o k e. subst (λ (j : ℕ). mark w j ≡ 2) (back k e) (omega (arith, (s.right off).small d, eqb-false (mark w d) 0 z, eqb-false (mark w d) 1 y));
          found = s.known;
        }))))

    state_after : (w w' : Walked) → State w → Did w w' → (w'.circle ≡ true → Circle rhs table) → State w'
    state_after w w' s r c = record { deep = omega (arith, r.few, s.deep); many = r.long ∙ s.many; right = r.fine; known = c }

    -- the terms of d, from a state at which only what leads to d is open
    record Overed (w w' : Walked) (ts : List Term) : Type 0 where
      did : Did w w'
      met : w'.circle ≡ false → (t : Term) → Memᴰ t ts → (e : ℕ) → get_or table t.wire 0 ≡ suc e → mark w' e ≡ 2
      found : w'.circle ≡ true → Circle rhs table

    overed : (d : ℕ) (ts : List Term) (w : Walked) → ((t : Term) → Memᴰ t ts → Memᴰ t (rhs d)) → State w
        → (w.circle ≡ false → (e : ℕ) → mark w e ≡ 1 → (e ≡ d) ⊎ Leads rhs table e d) → Overed w (over (visit f rhs table) table ts w) ts
    unfolding over
    overed d [] w part s up = record { did = did_none w s.right; met = λ o t h. absurd (Memᴰ.not-nil h); found = s.known }
    overed d (t ∷ ts) w part s up =
        let x = get_or table t.wire 0 in
        let v = enter (visit f rhs table) w (get_or table t.wire 0) in
        let r = entered w (get_or table t.wire 0) s (named t.wire)
        (λ o k q e h. ⊎_elim (λ (p : e ≡ d). subst (λ (j : ℕ). Leads rhs table j k) (sym p) (directly (t, part t (Memᴰ.head refl), q))) (λ (l : Leads rhs table e d). onward l (t, part t (Memᴰ.head refl), q)) (up o e h)) in
        let i = overed d ts v (λ u h. part u (Memᴰ.tail h)) (state_after w v s r.did r.found) (λ o e h. up (r.did.live o) e (r.did.opens o e h)) in
        record {
          did = did_both w v (over (visit f rhs table) table ts v) r.did i.did;
          met = λ o u h. met_in i r o u h;
          found = i.found;
        }
      where
        met_in : Overed (enter (visit f rhs table) w (get_or table t.wire 0)) (over (visit f rhs table) table ts (enter (visit f rhs table) w (get_or table t.wire 0))) ts
            → Entered w (enter (visit f rhs table) w (get_or table t.wire 0)) (get_or table t.wire 0)
            → (over (visit f rhs table) table ts (enter (visit f rhs table) w (get_or table t.wire 0))).circle ≡ false
            → (u : Term) → Memᴰ u (t ∷ ts) → (e : ℕ) → get_or table u.wire 0 ≡ suc e → mark (over (visit f rhs table) table ts (enter (visit f rhs table) w (get_or table t.wire 0))) e ≡ 2
        met_in i r o u (Memᴰ.head p) e q =
            let two = r.met (i.did.live o) e (ap (λ (y : Term). get_or table y.wire 0) (sym p) ∙ q) in
            i.did.same e (λ z. omega (arith, two, z)) ∙ two
        met_in i r o u (Memᴰ.tail h) e q = i.met o u h e q

  -- a visit
  visited : (m : ℕ) → n ≤ m → ((x d : ℕ) → get_or table x 0 ≡ suc d → d < n) → (f : ℕ) (w : Walked) (d : ℕ) → Ready m f w d → Visited w (visit f rhs table w d) d
  unfolding visit
  visited m nm named zero w d y = absurd (omega (arith, y.deep, y.there, y.many, fewer w.marks d 0 (omega (arith, y.there, y.many)) y.new))
  visited m nm named (suc f) w d y =
      let l : d < length w.marks = omega (arith, y.there, y.many) in
      let o : Walked = opened w d in
      let long : length (set w.marks d 1) ≡ length w.marks = length-set w.marks d 1 in
      let less : unmarked (set w.marks d 1) + 1 ≡ unmarked w.marks = fewer w.marks d 0 l y.new in
      let one : get_or (set w.marks d 1) d 0 ≡ 1 = get_or-set_same w.marks d 1 0 l in
      let L : Walked = over (visit f rhs table) table (rhs d) (opened w d) in
      let r = overed m f named (visited m nm named f) d (rhs d) (opened w d) (λ t h. h)
      (record { deep = omega (arith, less, y.deep); many = long ∙ y.many; right = λ z. fine_opened w d l y.new y.right; known = λ z. clash z y.alive })
      (λ z e h. same_or_not e d (λ q. inl q) (λ q. inr (y.above e (sym (get_or-set_other w.marks d e 1 0 q) ∙ h)))) in
      let open_d : mark L d ≡ 1 = r.did.same d (λ q. omega (arith, one, q)) ∙ one in
      let ll : d < length L.marks = omega (arith, l, long, r.did.long) in
      let kept : (e : ℕ) → (mark w e ≡ 0 → ⊥) → mark L e ≡ mark w e = λ e h.
      let e_other : e ≡ d → ⊥ = λ q. h (ap (λ (k : ℕ). get_or w.marks k 0) q ∙ y.new) in
      r.did.same e (λ q. h (sym (get_or-set_other w.marks d e 1 0 e_other) ∙ q)) ∙ get_or-set_other w.marks d e 1 0 e_other in
      by_test L.circle
      (λ on. subst (λ (v : Walked). Visited w v d) (closed_circle L d on)
      (record {
        did = record { long = r.did.long ∙ long; same = kept; few = omega (arith, r.did.few, less); live = λ z. clash on z; fine = λ z. clash on z; even = λ z. clash on z; opens = λ z. clash on z };
        met = λ z. clash on z;
        found = r.found;
      }))
      (λ off.
      let even : L.left + unmarked (set w.marks d 1) ≡ w.left + unmarked L.marks = r.did.even off in
      let same : unmarked (set L.marks d 2) ≡ unmarked L.marks = remarked L.marks d 1 (λ q. omega (arith, q, open_d)) in
      subst (λ (v : Walked). Visited w v d) (closed-done L d off)
      (record {
        did = record {
          long = length-set L.marks d 2 ∙ r.did.long ∙ long;
          same = λ e h. get_or-set_other L.marks d e 2 0 (λ q. h (ap (λ (k : ℕ). get_or w.marks k 0) q ∙ y.new)) ∙ kept e h;
          few = omega (arith, same, r.did.few, less);
          live = λ z. y.alive;
          fine = λ z. fine_closed L d y.there ll open_d (omega (arith, even, less, y.right.room)) (r.did.fine off) (λ e k. r.met off k.0 k.1 e k.2);
          even = λ z. omega (arith, even, same, less, y.right.room);
          opens = λ z e h. same_or_not e d
              (λ q. absurd (omega (arith, h, ap (λ (k : ℕ). get_or (set L.marks d 2) k 0) q, get_or-set_same L.marks d 2 0 ll)))
              (λ q. sym (get_or-set_other w.marks d e 1 0 q) ∙ r.did.opens off e (sym (get_or-set_other L.marks d e 2 0 q) ∙ h));
        };
        met = λ z. get_or-set_same L.marks d 2 0 ll;
        found = λ z. clash z refl;
      }))

  -- all definitions from k on
  record Walks (w w' : Walked) (k j : ℕ) : Type 0 where
    did : Did w w'
    met : w'.circle ≡ false → (d : ℕ) → k ≤ d → d < k + j → mark w' d ≡ 2
    found : w'.circle ≡ true → Circle rhs table

  walks : (m f : ℕ) (nm : n ≤ m) (named : (x d : ℕ) → get_or table x 0 ≡ suc d → d < n) (j k : ℕ) (w : Walked) → k + j ≤ n → State m f named (visited m nm named f) w
      → (w.circle ≡ false → (e : ℕ) → mark w e ≡ 1 → ⊥) → Walks w (walk_from f rhs table k j w) k j
  unfolding walk_from
  walks m f nm named zero k w b s up = record { did = did_none w s.right; met = λ o d h i. absurd (omega arith); found = s.known }
  walks m f nm named (suc j) k w b s up =
      let v = enter (visit f rhs table) w (suc k) in
      let r = entered m f named (visited m nm named f) w (suc k) s (λ d e. omega (arith, e, b)) (λ o d q e h. absurd (up o e h)) in
      let i = walks m f nm named j (suc k) v (omega arith) (state_after m f named (visited m nm named f) w v s r.did r.found) (λ o e h. up (r.did.live o) e (r.did.opens o e h)) in
      record {
        did = did_both w v (walk_from f rhs table (suc k) j v) r.did i.did;
        met = λ o d h l. same_or_not d k
            (λ q. let two = r.met (i.did.live o) d (ap suc (sym q)) in i.did.same d (λ z. omega (arith, two, z)) ∙ two)
            (λ q. i.met o d (omega (arith, q, h)) (omega arith));
        found = i.found;
      }

-- what a walk comes to
pub record Right (rhs : ℕ → Operand) (table : List ℕ) (n : ℕ) (w : Walked) : Type 0 where
  pub circle : w.circle ≡ true → Circle rhs table
  pub posted : w.circle ≡ false → Posted rhs table (order_of w)
  pub whole : w.circle ≡ false → (d : ℕ) → d < n → Memᴰ d (order_of w)
  pub only : w.circle ≡ false → (d : ℕ) → Memᴰ d (order_of w) → d < n

all_unmarked : (m : ℕ) → unmarked (replicate m 0) ≡ m
unfolding unmarked
all_unmarked zero = refl
all_unmarked (suc m) = ap suc (all_unmarked m)

pub walk_right : (rhs : ℕ → Operand) (table : List ℕ) (n m : ℕ) (order : List ℕ) → n ≤ m → m ≤ length order → ((x d : ℕ) → get_or table x 0 ≡ suc d → d < n)
    → Right rhs table n (walk_of rhs table n (replicate m 0) order)
unfolding walk_of
walk_right rhs table n m order nm mo named =
    let marks : List ℕ = replicate m 0 in
    let long : length marks ≡ m = length-replicate m 0 in
    let none : drop (length order) order ≡ [] = drop-length order in
    let fine : Fine rhs table n (begun marks order) = record {
      small = λ e. omega (arith, zero_at m e);
      room = omega (arith, all_unmarked m, mo);
      fits = omega arith;
      posted = subst (Posted rhs table) (sym none) done;
      stands = λ e h. absurd (omega (arith, h, zero_at m e));
      marked = λ e h. absurd (Memᴰ.not-nil (subst (Memᴰ e) none h));
      below = λ e h. absurd (Memᴰ.not-nil (subst (Memᴰ e) none h));
    } in
    let r = walks rhs table n m (length marks) nm named n 0 (begun marks order) (omega arith)
    (record { deep = omega (arith, all_unmarked m, long); many = long; right = λ o. fine; known = λ o. clash o refl })
    (λ o e h. omega (arith, h, zero_at m e)) in
    record {
      circle = r.found;
      posted = λ o. (r.did.fine o).posted;
      whole = λ o d h. (r.did.fine o).stands d (r.met o d (omega arith) (omega arith));
      only = λ o d h. (r.did.fine o).below d h;
    }

-- in an order no definition leads to itself
module _ (rhs : ℕ → Operand) (table : List ℕ) where
  pub links_in : (ds : List ℕ) → Posted rhs table ds → (d e : ℕ) → Memᴰ d ds → Link rhs table d e → Memᴰ e ds
  links_in [] p d e h k = absurd (Memᴰ.not-nil h)
  links_in (x ∷ ds) (more new all p) d e (Memᴰ.head q) k = Memᴰ.tail (all e (subst (λ (y : ℕ). Link rhs table y e) q k))
  links_in (x ∷ ds) (more new all p) d e (Memᴰ.tail h) k = Memᴰ.tail (links_in ds p d e h k)

  leads_in : (ds : List ℕ) (x : ℕ) → ((e : ℕ) → Link rhs table x e → Memᴰ e ds) → Posted rhs table ds → (e : ℕ) → Leads rhs table x e → Memᴰ e ds
  leads_in ds x all p e (directly k) = all e k
  leads_in ds x all p e (onward {e = y} l k) = links_in ds p y e (leads_in ds x all p y l) k

  pub no_circle : (ds : List ℕ) → Posted rhs table ds → (d : ℕ) → Memᴰ d ds → Leads rhs table d d → ⊥
  no_circle [] p d h l = Memᴰ.not-nil h
  no_circle (x ∷ ds) (more new all p) d (Memᴰ.head q) l = new (leads_in ds x all p x (subst (λ (y : ℕ). Leads rhs table y y) q l))
  no_circle (x ∷ ds) (more new all p) d (Memᴰ.tail h) l = no_circle ds p d h l
