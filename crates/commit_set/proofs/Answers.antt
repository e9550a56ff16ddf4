-- The refusals of deciding in their order, what the walk has come to, and that there is one answer.
-- Assumes nothing.
use mathlib.Core.Path.{◌≡◌, refl, sym, ◌∙◌, subst}
use Prim.Native.Nat.{ℕ, ◌≤◌, ◌<◌}
use mathlib.Core.List.{List, Memᴰ}
use mathlib.Core.Bool.{Bool, true, false, ◌||◌}
use native.Mathlib.Omega.{arith}
use lib.ListN.{length, take, drop, replicate, length-replicate}
use lib.Dec.{eqb}
use borrow.Author.Tests.{eqb-true}
use Rattle.lower.specs.declared.Sizes.{Sizes}
use Rattle.lower.specs.Lists.{All}
use Rattle.lower.specs.Accepted.{Once, Reaches, NoCircle}
use Rattle.lower.specs.Stores.{Stores, system_of}
use Rattle.lower.specs.Faults.{memory_fault, definition_fault}
use Rattle.lower.proofs.Firsts.{else_some, else_none, else_first, else_second, unless_holds}
use Rattle.lower.proofs.Checks.{checked, dsts_small, memory_places, memory_wires, memory_definitions}
use Rattle.lower.proofs.Explains.{proper_right}
use Rattle.legraph.specs.declared.Walk.{Walk}
use Rattle.legraph.specs.Tables.{numbered}
use Rattle.legraph.specs.Walked.{Walked, walk_of, order_of, rhs_in, There, Sound}
use Rattle.legraph.proofs.Theorem.{count, small, rhs_same, table_made, all_there, sound, Ends, ends}
use Rattle.commit_set.specs.Orders.{InOrder}
use Rattle.commit_set.specs.Answer.{slots_fault, decision_fault}
use Rattle.commit_set.proofs.Ordering.{in_order}

pub slots_right : (slots : ℕ) → slots_fault slots ≡ 0 → slots ≤ 2
slots_right slots e = low (eqb slots 1) (eqb slots 2) (unless_holds (eqb slots 1 || eqb slots 2) 7 (omega arith) e) (eqb-true slots 1) (eqb-true slots 2)
  where
    low : (a b : Bool) → (a || b) ≡ true → (a ≡ true → slots ≡ 1) → (b ≡ true → slots ≡ 2) → slots ≤ 2
    low true b h p q = omega (arith, p refl)
    low false true h p q = omega (arith, q refl)
    low false false h p q = let x : ◌≡◌ {A = ℕ} 0 1 = cc in absurd (omega arith)

module _ (slots : ℕ) (z : Sizes) (s : Stores) where
  module _ (e : memory_fault 8192 z s ≡ 0) where
    pub fault_slots : (slots_fault slots ≡ 0 → ⊥) → slots_fault slots ≡ decision_fault slots z s
    unfolding decision_fault
    fault_slots h = sym (else_none (memory_fault 8192 z s) _ e ∙ else_some (slots_fault slots) _ h)

    pub fault_definitions : slots_fault slots ≡ 0 → definition_fault (system_of z s) ≡ decision_fault slots z s
    unfolding decision_fault
    fault_definitions h = sym (else_none (memory_fault 8192 z s) _ e ∙ else_none (slots_fault slots) _ h)

  module _ (f : decision_fault slots z s ≡ 0) where
    pub memory_none : memory_fault 8192 z s ≡ 0
    unfolding decision_fault
    memory_none = else_first (memory_fault 8192 z s) _ f

    pub definition_none : definition_fault (system_of z s) ≡ 0
    unfolding decision_fault
    definition_none = else_second (slots_fault slots) _ (else_second (memory_fault 8192 z s) _ f)

    pub once : Once (system_of z s).linears
    once = ((proper_right (system_of z s)).0 definition_none).0

    pub slots_few : slots ≤ 2
    unfolding decision_fault
    slots_few = slots_right slots (else_first (slots_fault slots) _ (else_second (memory_fault 8192 z s) _ f))

    abbrev made : List ℕ
    made = numbered 0 (take z.linears s.dsts) (replicate 4096 0)

    -- what the walk asks
    pub walk_asks : ((z.linears ≤ length s.dsts) × (z.linears < 65536) × All (λ (d : ℕ). d < length (replicate {A = ℕ} 4096 0)) (take z.linears s.dsts))
        × (Sound s.old s.new s.rhss made 1024 × ((d : ℕ) → d < z.linears → There s.old s.new s.rhss 1024 d))
    walk_asks =
        let y = checked z s (memory_places 8192 z s memory_none) in (
          (
            y.dsts_in,
            omega (arith, memory_definitions 8192 z s memory_none),
            subst (λ (m : ℕ). All (λ (d : ℕ). d < m) (take z.linears s.dsts)) (sym (length-replicate {A = ℕ} 4096 0)) (dsts_small z s y (memory_wires 8192 z s memory_none)),
          ),
          (
            subst (λ (l : List ℕ). Sound s.old s.new s.rhss l 1024) (sym (table_made z s memory_none)) (sound z s memory_none once),
            all_there z s memory_none,
          ),
        )

    -- what the walk has come to
    pub record Outcome (c : Walk) (order : List ℕ) : Type 0 where
      pub circle : c.circle ≡ true → (x : ℕ) × Reaches (system_of z s) x x
      pub none : c.circle ≡ false → NoCircle (system_of z s)
      pub ordered : c.circle ≡ false → InOrder (system_of z s) (λ d. false) (drop c.left order)
      pub only : c.circle ≡ false → (d : ℕ) → Memᴰ d (drop c.left order) → d < z.linears

    abbrev walked : Walked
    walked = walk_of (rhs_in s.old s.new s.rhss) made z.linears (replicate 1024 0) (replicate 1024 0)

    pub outcome : (c : Walk) (order : List ℕ) → c.left ≡ walked.left → c.circle ≡ walked.circle → order ≡ walked.order → Outcome c order
    outcome c order l b o =
        let e = memory_none in
        let r : Ends z s e once walked = subst (λ (x : List ℕ). Ends z s e once (walk_of (rhs_in s.old s.new s.rhss) x z.linears (replicate 1024 0) (replicate 1024 0))) (sym (table_made z s e)) (ends z s e once (replicate 1024 0) (omega (arith, length-replicate {A = ℕ} 1024 0))) in
        let same : drop c.left order ≡ order_of walked = rw (l, o) in
        record {
          circle = λ h. r.circle (sym b ∙ h);
          none = λ h. r.no_circle (sym b ∙ h);
          ordered = λ h. subst (InOrder (system_of z s) (λ d. false)) (sym same)
              (in_order (system_of z s) 4096 once (small z s e) (rhs_in s.old s.new s.rhss) (rhs_same z s e) (order_of walked) (r.posted (sym b ∙ h)) (r.whole (sym b ∙ h)) (r.only (sym b ∙ h)));
          only = λ h d m. omega (arith, r.only (sym b ∙ h) d (subst (Memᴰ d) same m), count z s e);
        }
