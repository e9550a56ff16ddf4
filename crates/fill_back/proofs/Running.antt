-- What the calls of `fill_back` ask, what the walk has come to, and that filling in its order fills back. Assumes nothing.
use mathlib.Core.Path.{◌≡◌, refl, sym, ap, ap₂, ◌∙◌, subst}
use Prim.Native.Nat.{ℕ, ◌≤◌, ◌<◌}
use native.Mathlib.Omega.{arith}
use mathlib.Core.Bool.{Bool, true, false, cond, ◌&&◌}
use lib.Dec.{eqb}
use borrow.Author.Tests.{eqb-true}
use mathlib.Core.List.{List, [], ◌∷◌, Memᴰ}
use lib.ListN.{length, set, take, drop, replicate, length-replicate}
use Rattle.std.specs.Result.{IsErrAnd}
use Rattle.std.specs.Prelude.{Result}
use Rattle.refusal.specs.declared.Refusal.{Refusal}
use Rattle.refusal.specs.Refusals.{number_of, fault_in}
use Rattle.operand.specs.Numbers.{Operand}
use Rattle.lower.specs.declared.Sizes.{Sizes}
use Rattle.lower.specs.Lists.{All}
use Rattle.lower.specs.Model.{Definition, System}
use Rattle.lower.specs.Values.{value, word_of}
use Rattle.lower.specs.Accepted.{ShiftsOf, Once, Reaches, NoCircle}
use Rattle.lower.specs.Stores.{Stores, system_of}
use Rattle.lower.specs.Faults.{memory_fault, fault_of}
use Rattle.lower.specs.Explained.{Standing}
use Rattle.lower.proofs.Refusals.{number_some, exit_is}
use Rattle.lower.proofs.Firsts.{else_first, else_second}
use Rattle.lower.proofs.Checks.{checked, dsts_small, memory_places, memory_wires, memory_definitions}
use Rattle.lower.proofs.Explains.{standing_right, proper_right}
use Rattle.legraph.specs.declared.Walk.{Walk}
use Rattle.legraph.specs.Uses.{dst_of, no_definition}
use Rattle.legraph.specs.Tables.{numbered}
use Rattle.legraph.specs.Walked.{Walked, walk_of, order_of, rhs_in, There, Sound}
use Rattle.legraph.specs.Orders.{Posted}
use Rattle.legraph.proofs.Listing.{table_of}
use Rattle.legraph.proofs.Theorem.{count, rhs_same, dst_same, small, table_made, all_there, sound, Ends, ends}
use Rattle.commit_set.proofs.Members.{all_get, all_terms, all_rhs}
use Rattle.patch.proofs.Parts.{clash, all_members}
use Rattle.undo.specs.Steps.{fill_one, fill_all}
use Rattle.undo.proofs.Order.{fill_all-length, fills_in_order}
use Rattle.fill_back.specs.Filling.{flagged, lengths_right, FillsIs, refused, filled}
use Rattle.fill_back.specs.Steps.{Held, held, fill_step, fill_from, Able}

-- what the lengths' test says
pub lengths_both : (z : Sizes) (flags ws : List ℕ) → lengths_right z flags ws ≡ true → (length flags ≡ z.wires) × (length ws ≡ z.wires)
unfolding lengths_right
lengths_both z flags ws e = go (eqb (length flags) z.wires) (eqb (length ws) z.wires) e (eqb-true (length flags) z.wires) (eqb-true (length ws) z.wires)
  where
    go : (a b : Bool) → (a && b) ≡ true → (a ≡ true → length flags ≡ z.wires) → (b ≡ true → length ws ≡ z.wires) → (length flags ≡ z.wires) × (length ws ≡ z.wires)
    go true true h p q = (p refl, q refl)
    go true false h p q = absurd (clash h refl)
    go false b h p q = absurd (clash h refl)

-- what a check refuses is refused, and nothing is filled
pub refused_exit : (z : Sizes) (s : Stores) (flags ws : List ℕ) (x : Result Unit Refusal) (r : Refusal) → IsErrAnd x (λ y. y ≡ r) → number_of r ≡ fault_of 8192 z s → FillsIs z s flags ws ws (fault_in x)
refused_exit z s flags ws x r h e = let p = exit_is x r (fault_of 8192 z s) h e in refused p (λ q. number_some r (e ∙ sym p ∙ q)) refl

module _ (z : Sizes) (s : Stores) (f : fault_of 8192 z s ≡ 0) where
  abbrev p : System
  p = system_of z s

  pub memory_none : memory_fault 8192 z s ≡ 0
  unfolding fault_of
  memory_none = else_first (memory_fault 8192 z s) _ f

  pub once : Once p.linears
  unfolding fault_of
  once = ((proper_right (system_of z s)).0 (else_second (memory_fault 8192 z s) _ f)).0

  -- ---- what the calls ask

  pub table_there : (z.linears ≤ length s.dsts) × (z.linears < 65536) × All (λ (d : ℕ). d < length (replicate {A = ℕ} 4096 0)) (take z.linears s.dsts)
  table_there =
      let y = checked z s (memory_places 8192 z s memory_none) in (
        y.dsts_in,
        omega (arith, memory_definitions 8192 z s memory_none),
        subst (λ (m : ℕ). All (λ (d : ℕ). d < m) (take z.linears s.dsts)) (sym (length-replicate {A = ℕ} 4096 0)) (dsts_small z s y (memory_wires 8192 z s memory_none)),
      )

  pub walk_there : (t : List ℕ) → t ≡ numbered 0 (take z.linears s.dsts) (replicate 4096 0)
      → Sound s.old s.new s.rhss t 1024 × ((z.linears < 65536) × ((d : ℕ) → d < z.linears → There s.old s.new s.rhss 1024 d))
  walk_there t q = (
    subst (λ (l : List ℕ). Sound s.old s.new s.rhss l 1024) (sym (q ∙ table_made z s memory_none)) (sound z s memory_none once),
    (omega (arith, memory_definitions 8192 z s memory_none), all_there z s memory_none),
  )

  -- ---- what the walk has come to

  abbrev walk_by : List ℕ → Walked
  walk_by t = walk_of (rhs_in s.old s.new s.rhss) t z.linears (replicate 1024 0) (replicate 1024 0)

  pub walked_ends : Ends z s memory_none once (walk_by (table_of 4096 p))
  walked_ends = ends z s memory_none once (replicate 1024 0) (omega (arith, length-replicate {A = ℕ} 1024 0))

  pub record Outcome (c : Walk) (order : List ℕ) : Type 0 where
    pub circle : c.circle ≡ true → (x : ℕ) × Reaches p x x
    pub none : c.circle ≡ false → NoCircle p
    pub posted : c.circle ≡ false → Posted (rhs_in s.old s.new s.rhss) (table_of 4096 p) (drop c.left order)
    pub whole : c.circle ≡ false → (d : ℕ) → d < length p.linears → Memᴰ d (drop c.left order)
    pub only : c.circle ≡ false → (d : ℕ) → Memᴰ d (drop c.left order) → d < length p.linears

  pub outcome : (t : List ℕ) (c : Walk) (order : List ℕ) → t ≡ numbered 0 (take z.linears s.dsts) (replicate 4096 0)
      → c.left ≡ (walk_by t).left → c.circle ≡ (walk_by t).circle → order ≡ (walk_by t).order → Outcome c order
  outcome t c order q l b o =
      let made : t ≡ table_of 4096 p = q ∙ table_made z s memory_none in
      let r : Ends z s memory_none once (walk_by t) = subst (λ (x : List ℕ). Ends z s memory_none once (walk_by x)) (sym made) walked_ends in
      let same : drop c.left order ≡ order_of (walk_by t) = rw (l, o) in
      record {
        circle = λ h. r.circle (sym b ∙ h);
        none = λ h. r.no_circle (sym b ∙ h);
        posted = λ h. rw same (r.posted (sym b ∙ h));
        whole = λ h d k. subst (Memᴰ d) (sym same) (r.whole (sym b ∙ h) d k);
        only = λ h d m. r.only (sym b ∙ h) d (subst (Memᴰ d) same m);
      }

  -- ---- filling

  module _ (flags ws : List ℕ) where
    abbrev h : Held
    h = held s.old s.new s.dsts s.rhss flags

    step_same : (d : ℕ) (vs : List ℕ) → d < length p.linears → fill_step h d vs ≡ fill_one p (flagged flags) vs d
    unfolding fill_step fill_one
    step_same d vs l =
        ap₂ (λ (w : ℕ) (o : Operand). cond (flagged flags w) vs (set vs w (value (word_of vs) o))) (dst_same z s memory_none d l) (rhs_same z s memory_none d l)

    from_same : (ds : List ℕ) → ((d : ℕ) → Memᴰ d ds → d < length p.linears) → fill_from h ds ws ≡ fill_all p (flagged flags) ds ws
    unfolding fill_from fill_all
    from_same [] only = refl
    from_same (d ∷ ds) only =
        step_same d (fill_from h ds ws) (only d (Memᴰ.head refl)) ∙ ap (λ (vs : List ℕ). fill_one p (flagged flags) vs d) (from_same ds (λ x m. only x (Memᴰ.tail m)))

    module _ (right : lengths_right z flags ws ≡ true) (c : Walk) (order : List ℕ) (o : Outcome c order) (k : c.circle ≡ false) where
      stood : Standing z s 8192
      stood = (standing_right 8192 z s).0 memory_none

      named : (d : ℕ) → d < length p.linears → dst_of p d < p.wires
      named d l = all_get (λ (x : Definition). x.dst < p.wires) p.linears d no_definition stood.0.1.destinations_named l

      able : (d : ℕ) → d < length p.linears → Able h (length ws) d
      unfolding system_of
      able d l =
          let n = count z s memory_none in let y = dst_same z s memory_none d l in let w = named d l in let m = lengths_both z flags ws right in
          record {
            right_side = omega (arith, l, n, stood.0.0.rhss_there);
            destination = omega (arith, l, n, stood.0.0.dsts_there);
            flag = omega (arith, y, w, m.0);
            place = omega (arith, y, w, m.1);
            stands = (all_there z s memory_none d (omega (arith, l, n))).2;
            shifted = subst (All ShiftsOf) (sym (rhs_same z s memory_none d l)) (all_rhs ShiftsOf p d l (all_terms ShiftsOf p stood.0.2));
          }

      pub all_able : All (Able h (length ws)) (drop c.left order)
      all_able = all_members (drop c.left order) (λ d m. able d (o.only k d m))

      -- THE THEOREM. Filling in the walk's order, from its end, fills back.
      pub filled_answer : (ws' : List ℕ) → ws' ≡ fill_from h (drop c.left order) ws → FillsIs z s flags ws ws' 0
      unfolding system_of
      filled_answer ws' e =
          let ds : List ℕ = drop c.left order in
          let q : ws' ≡ fill_all p (flagged flags) ds ws = e ∙ from_same ds (o.only k) in
          subst (λ (vs : List ℕ). FillsIs z s flags ws vs 0) (sym q)
          (filled f (o.none k) right (fill_all-length p (flagged flags) ds ws)
          (fills_in_order p (flagged flags) 4096 once (small z s memory_none) stood.0.1.destinations_named (rhs_in s.old s.new s.rhss) (rhs_same z s memory_none) ws
          (lengths_both z flags ws right).1 ds (o.posted k) (o.whole k) (o.only k)))
