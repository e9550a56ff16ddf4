-- 3, 4 and 5: what holds of each fault holds of the first; so none is given just when all is sound. Assumes nothing.
use mathlib.Core.Path.{◌≡◌, refl, sym, subst}
use mathlib.Core.Logic.{◌⊎◌, inl, inr}
use mathlib.Core.List.{List, [], ◌∷◌, map}
use mathlib.Core.Bool.{Bool, true, false}
use Prim.Native.Nat.{ℕ, ◌*◌, ◌≤◌, ◌<◌}
use native.Mathlib.Omega.{arith}
use lib.ListN.{length, take}
use lib.Dec.{ltb, leb}
use borrow.Author.Tests.{le-leb, leb-true, lt-ltb, ltb-true}
use Rattle.shift.specs.Shifts.{valid_number}
use Rattle.operand.specs.Numbers.{Term, Operand, operand_at, operand_of, within}
use Rattle.lower.specs.declared.Sizes.{Sizes}
use Rattle.lower.specs.Lists.{All, more}
use Rattle.lower.specs.Model.{Definition, System, row_operands, definition_operands, operands_of, terms_of}
use Rattle.lower.specs.Accepted.{Named, Shifted, ShiftsOf}
use Rattle.lower.specs.Stores.{Stores, system_of, row_handles, handles_in, Stands, Placed}
use Rattle.lower.specs.Explained.{Sound}
use Rattle.lower.specs.Faults.{or_else, unless, first_fault, term_fault, operand_fault, rows_fault, pairs_fault, definitions_fault, places_fault}
use Rattle.lower.proofs.Firsts.{else_first, else_second, else_only, unless_holds, unless_only, first_none, first_only}
use Rattle.lower.proofs.Laws.{all_left, all_right, all_imp, all_map, rows_model, definitions_model, destinations_model, operands_model}
use Rattle.lower.proofs.Alls.{all_every, all_zip, all_join, all_unjoin, all_unmap}
use Rattle.lower.proofs.Checks.{Checked, checked, placed, handles_sound, operand_sound}

-- ---- one term

module _ (Q : ℕ → Type 0) (w : ℕ) (t : Term) where
  term_only : Q (unless (ltb t.wire w) 5) → Q (unless (valid_number t.inner) 4) → Q (unless (valid_number t.outer) 4) → Q (term_fault w t)
  unfolding term_fault
  term_only a b c =
      else_only Q (unless (ltb t.wire w) 5) (or_else (unless (valid_number t.inner) 4) (unless (valid_number t.outer) 4)) a
      (else_only Q (unless (valid_number t.inner) 4) (unless (valid_number t.outer) 4) b c)

  module _ (none : Q 0) where
    term_any : Q 4 → Q 5 → Q (term_fault w t)
    term_any c d = term_only (unless_only Q (ltb t.wire w) 5 none d) (unless_only Q (valid_number t.inner) 4 none c) (unless_only Q (valid_number t.outer) 4 none c)

    term_of_shifts : Q 5 → ShiftsOf t → Q (term_fault w t)
    term_of_shifts d k = term_only (unless_only Q (ltb t.wire w) 5 none d) (rw k.0 none) (rw k.1 none)

    term_of_wire : Q 4 → t.wire < w → Q (term_fault w t)
    term_of_wire c k = term_only (rw (lt-ltb t.wire w k) none) (unless_only Q (valid_number t.inner) 4 none c) (unless_only Q (valid_number t.outer) 4 none c)

module _ (w : ℕ) (t : Term) (e : term_fault w t ≡ 0) where
  term_named : t.wire < w
  unfolding term_fault
  term_named = ltb-true _ _ (unless_holds (ltb t.wire w) 5 (omega arith) (else_first (unless (ltb t.wire w) 5) _ e))

  term_shifted : ShiftsOf t
  unfolding term_fault
  term_shifted =
      let f = else_second (unless (ltb t.wire w) 5) _ e in (
        unless_holds (valid_number t.inner) 4 (omega arith) (else_first (unless (valid_number t.inner) 4) _ f),
        unless_holds (valid_number t.outer) 4 (omega arith) (else_second (unless (valid_number t.inner) 4) _ f),
      )

-- ---- one list

module _ (Q : ℕ → Type 0) (none : Q 0) (w : ℕ) (old new : List ℕ) where
  operand_only : (h : ℕ) → Q (unless (within old new (operand_at h)) 3) → All (λ (t : Term). Q (term_fault w t)) (operand_of old new h) → Q (operand_fault w old new h)
  unfolding operand_fault
  operand_only h a ts =
      else_only Q (unless (within old new (operand_at h)) 3) (first_fault (term_fault w) (operand_of old new h)) a (first_only Q (term_fault w) (operand_of old new h) none ts)

  rows_only_lem : (k n : ℕ) (hs : List ℕ) → Q (unless (leb (k * n) (length hs)) 3) → All (λ (h : ℕ). Q (operand_fault w old new h)) (take (k * n) hs) → Q (rows_fault w old new k n hs)
  unfolding rows_fault
  rows_only_lem k n hs a all =
      else_only Q (unless (leb (k * n) (length hs)) 3) (first_fault (operand_fault w old new) (take (k * n) hs)) a (first_only Q (operand_fault w old new) (take (k * n) hs) none all)

  pairs_only : (ds hs : List ℕ) → All (λ (d : ℕ). Q (unless (ltb d w) 5)) ds → All (λ (h : ℕ). Q (operand_fault w old new h)) hs → Q (pairs_fault w old new ds hs)
  pairs_only [] hs a b = none
  pairs_only (d ∷ ds) [] a b = none
  pairs_only (d ∷ ds) (h ∷ hs) (more p a) (more q b) =
      else_only Q (or_else (unless (ltb d w) 5) (operand_fault w old new h)) (pairs_fault w old new ds hs)
      (else_only Q (unless (ltb d w) 5) (operand_fault w old new h) p q) (pairs_only ds hs a b)

  -- the definitions are looked at where both lists are long enough
  definitions_only : (n : ℕ) (ds hs : List ℕ) → Q (unless (leb n (length ds)) 3) → Q (unless (leb n (length hs)) 3)
      → (n ≤ length ds → n ≤ length hs → Q (pairs_fault w old new (take n ds) (take n hs))) → Q (definitions_fault w old new n ds hs)
  unfolding definitions_fault
  definitions_only n ds hs a b pairs = go (leb n (length ds)) (leb n (length hs)) refl refl a b
    where
      go : (x y : Bool) → leb n (length ds) ≡ x → leb n (length hs) ≡ y → Q (unless x 3) → Q (unless y 3)
          → Q (or_else (unless x 3) (or_else (unless y 3) (pairs_fault w old new (take n ds) (take n hs))))
      go false y e f p q = p
      go true false e f p q = q
      go true true e f p q = pairs (leb-true _ _ e) (leb-true _ _ f)

-- ---- the whole system

module _ (z : Sizes) (s : Stores) where
  abbrev f : ℕ → Operand
  f = operand_of s.old s.new

  abbrev p : System
  p = system_of z s

  abbrev rows : List ℕ
  rows = row_handles z s.ands s.imuls s.bmuls s.zeros

  -- what holds of 0, of each term's fault, of each destination's, and of 3 where something is not in its place
  module _ (Q : ℕ → Type 0) (none : Q 0) (terms : All (λ (t : Term). Q (term_fault z.wires t)) (terms_of p))
      (dests : All (λ (d : Definition). Q (unless (ltb d.dst z.wires) 5)) p.linears) (shape : Q 3 ⊎ Placed z s) where
    test : (b : Bool) → (Placed z s → b ≡ true) → Q (unless b 3)
    test b k = by shape
      where
        by : Q 3 ⊎ Placed z s → Q (unless b 3)
        by (inl q) = unless_only Q b 3 none q
        by (inr y) = rw (k y) none

    stands : (hs : List ℕ) → (Placed z s → All (Stands s.old s.new) hs) → All (λ (h : ℕ). Q (unless (within s.old s.new (operand_at h)) 3)) hs
    stands hs k = by shape
      where
        by : Q 3 ⊎ Placed z s → All (λ (h : ℕ). Q (unless (within s.old s.new (operand_at h)) 3)) hs
        by (inl q) = all_every (λ h. unless_only Q (within s.old s.new (operand_at h)) 3 none q) hs
        by (inr y) = all_imp one hs (k y)
          where
            one : (h : ℕ) → Stands s.old s.new h → Q (unless (within s.old s.new (operand_at h)) 3)
            one h e = let t : within s.old s.new (operand_at h) ≡ true = le-leb _ _ e in rw t none

    operands : (hs : List ℕ) (os : List Operand) → os ≡ map f hs → All (λ (o : Operand). All (λ (t : Term). Q (term_fault z.wires t)) o) os
        → (Placed z s → All (Stands s.old s.new) hs) → All (λ (h : ℕ). Q (operand_fault z.wires s.old s.new h)) hs
    operands hs os e all k =
        all_zip (λ h a b. operand_only Q none z.wires s.old s.new h a b) hs (stands hs k)
        (all_unmap (λ (o : Operand). All (λ (t : Term). Q (term_fault z.wires t)) o) f hs (rw e at all))

    by_operand : All (λ (o : Operand). All (λ (t : Term). Q (term_fault z.wires t)) o) (operands_of p)
    by_operand = all_unjoin (λ (t : Term). Q (term_fault z.wires t)) (operands_of p) terms

    in_rows : All (λ (h : ℕ). Q (operand_fault z.wires s.old s.new h)) rows
    in_rows =
        operands rows (row_operands p) (rows_model z s) (all_left _ (row_operands p) (definition_operands p) by_operand)
        (λ y. all_left _ rows (take z.linears s.rhss) y.operands_there)

    in_pairs : z.linears ≤ length s.dsts → z.linears ≤ length s.rhss
        → Q (pairs_fault z.wires s.old s.new (take z.linears s.dsts) (take z.linears s.rhss))
    in_pairs a b =
        let ds = subst (λ l. All (λ (d : ℕ). Q (unless (ltb d z.wires) 5)) l) (destinations_model z s a b)
        (all_map (λ (d : ℕ). Q (unless (ltb d z.wires) 5)) (λ (d : Definition). d.dst) p.linears dests) in
        let hs = operands (take z.linears s.rhss) (definition_operands p) (definitions_model z s a b)
        (all_right _ (row_operands p) (definition_operands p) by_operand) (λ y. all_right _ rows (take z.linears s.rhss) y.operands_there) in
        pairs_only Q none z.wires s.old s.new (take z.linears s.dsts) (take z.linears s.rhss) ds hs

    pub places_only : Q (places_fault z s)
    unfolding places_fault row_handles
    places_only =
        let w = z.wires in let o = s.old in let n = s.new in
        let one : z.zeros ≡ 1 * z.zeros = omega arith in
        let r1 = in_rows in
        let r2 = all_right _ (take (3 * z.ands) s.ands) _ r1 in
        let r3 = all_right _ (take (4 * z.imuls) s.imuls) _ r2 in
        let r4 = all_right _ (take (6 * z.bmuls) s.bmuls) _ r3 in
        let a = rows_only_lem Q none w o n 3 z.ands s.ands (test _ (λ y. le-leb (3 * z.ands) _ y.ands_there)) (all_left _ (take (3 * z.ands) s.ands) _ r1) in
        let b = rows_only_lem Q none w o n 4 z.imuls s.imuls (test _ (λ y. le-leb (4 * z.imuls) _ y.imuls_there)) (all_left _ (take (4 * z.imuls) s.imuls) _ r2) in
        let c = rows_only_lem Q none w o n 6 z.bmuls s.bmuls (test _ (λ y. le-leb (6 * z.bmuls) _ y.bmuls_there)) (all_left _ (take (6 * z.bmuls) s.bmuls) _ r3) in
        let d = rows_only_lem Q none w o n 1 z.zeros s.zeros (test _ (λ y. le-leb (1 * z.zeros) _ (rw one at y.zeros_there))) (rw one at r4) in
        let e = definitions_only Q none w o n z.linears s.dsts s.rhss (test _ (λ y. le-leb z.linears _ y.dsts_there)) (test _ (λ y. le-leb z.linears _ y.rhss_there)) in_pairs in
        else_only Q (rows_fault w o n 3 z.ands s.ands) _ a
        (else_only Q (rows_fault w o n 4 z.imuls s.imuls) _ b
        (else_only Q (rows_fault w o n 6 z.bmuls s.bmuls) _ c
        (else_only Q (rows_fault w o n 1 z.zeros s.zeros) _ d e)))

  -- each number by itself
  module _ (Q : ℕ → Type 0) (none : Q 0) where
    any_dest : Q 5 → All (λ (d : Definition). Q (unless (ltb d.dst z.wires) 5)) p.linears
    any_dest q = all_every (λ (d : Definition). unless_only Q (ltb d.dst z.wires) 5 none q) p.linears

    dest_there : All (λ (d : Definition). d.dst < z.wires) p.linears → All (λ (d : Definition). Q (unless (ltb d.dst z.wires) 5)) p.linears
    dest_there = all_imp one p.linears
      where
        one : (d : Definition) → d.dst < z.wires → Q (unless (ltb d.dst z.wires) 5)
        one d k = rw (lt-ltb d.dst z.wires k) none

    pub only_345 : Q 3 → Q 4 → Q 5 → Q (places_fault z s)
    only_345 b c d = places_only Q none (all_every (λ t. term_any Q z.wires t none c d) (terms_of p)) (any_dest d) (inl b)

    only_45 : Placed z s → Q 4 → Q 5 → Q (places_fault z s)
    only_45 y c d = places_only Q none (all_every (λ t. term_any Q z.wires t none c d) (terms_of p)) (any_dest d) (inr y)

    only_35 : Shifted p → Q 3 → Q 5 → Q (places_fault z s)
    only_35 y b d = places_only Q none (all_imp (λ t k. term_of_shifts Q z.wires t none d k) (terms_of p) y) (any_dest d) (inl b)

    only_34 : Named p → Q 3 → Q 4 → Q (places_fault z s)
    unfolding system_of
    only_34 y b c = places_only Q none (all_imp (λ t k. term_of_wire Q z.wires t none c k) (terms_of p) y.terms_named) (dest_there y.destinations_named) (inl b)

  pub not_3 : Placed z s → places_fault z s ≡ 3 → ⊥
  not_3 y = only_45 (λ n. n ≡ 3 → ⊥) (λ e. omega (arith, e)) y (λ e. omega (arith, e)) (λ e. omega (arith, e))

  pub not_4 : Shifted p → places_fault z s ≡ 4 → ⊥
  not_4 y = only_35 (λ n. n ≡ 4 → ⊥) (λ e. omega (arith, e)) y (λ e. omega (arith, e)) (λ e. omega (arith, e))

  pub not_5 : Named p → places_fault z s ≡ 5 → ⊥
  not_5 y = only_34 (λ n. n ≡ 5 → ⊥) (λ e. omega (arith, e)) y (λ e. omega (arith, e)) (λ e. omega (arith, e))

  pub sound_places : Sound z s → places_fault z s ≡ 0
  unfolding system_of
  sound_places y =
      let Q : ℕ → Type 0 = λ n. n ≡ 0 in
      places_only Q refl
      (all_zip (λ t a (k : ShiftsOf t). term_only Q z.wires t (rw (lt-ltb t.wire z.wires a)) (rw k.0) (rw k.1)) (terms_of p) y.1.terms_named y.2)
      (dest_there Q refl y.1.destinations_named) (inr y.0)

  -- no fault is that each term has none
  terms_none : Checked z s → All (λ (t : Term). term_fault z.wires t ≡ 0) (terms_of p)
  terms_none y =
      all_join (λ (t : Term). term_fault z.wires t ≡ 0) (operands_of p)
      (subst (λ l. All (λ (o : Operand). All (λ (t : Term). term_fault z.wires t ≡ 0) o) l) (sym (operands_model z s y.dsts_in y.rhss_in))
      (all_map (λ (o : Operand). All (λ (t : Term). term_fault z.wires t ≡ 0) o) f (handles_in z s)
      (all_imp (λ h e. first_none (term_fault z.wires) (f h) (operand_sound z.wires s.old s.new h e)) (handles_in z s) (handles_sound z s y))))

  pub places_sound : places_fault z s ≡ 0 → Sound z s
  unfolding system_of
  places_sound e =
      let y = checked z s e in let ts = terms_none y in
      let ds = all_unmap (λ (d : ℕ). d < z.wires) (λ (d : Definition). d.dst) p.linears
      (subst (λ l. All (λ (d : ℕ). d < z.wires) l) (sym (destinations_model z s y.dsts_in y.rhss_in)) y.dsts_sound) in (
        placed z s y,
        record { terms_named = all_imp (λ t k. term_named z.wires t k) (terms_of p) ts; destinations_named = ds },
        all_imp (λ t k. term_shifted z.wires t k) (terms_of p) ts,
      )
