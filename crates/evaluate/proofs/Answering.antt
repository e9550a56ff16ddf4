-- Which number is given, and the answer that it makes. Assumes nothing.
use mathlib.Core.Path.{◌≡◌, refl, sym, ap, ◌∙◌}
use Prim.Native.Nat.{ℕ, zero, suc, ◌+◌, ◌*◌, ◌≤◌, ◌<◌}
use native.Mathlib.Omega.{arith}
use mathlib.Core.List.{List, ◌++◌, map}
use lib.ListN.{length, take, length-map, length-append}
use lib.Seq.{sets, length-take-le}
use lib.Dec.{ltb, leb, eqb}
use borrow.Author.Tests.{le-leb, lt-leb, leb-true, eq-eqb, ne_eqb, eqb-true}
use Rattle.std.specs.Prelude.{Result, Ok}
use Rattle.std.specs.Result.{IsErrAnd}
use Rattle.std.proofs.lemmas.Result.{err_from_is_err_and}
use Rattle.refusal.specs.declared.Refusal.{Refusal}
use Rattle.refusal.specs.Refusals.{number_of}
use Rattle.word.specs.Answers.{refused}
use Rattle.shift.specs.Shifts.{valid_number}
use Rattle.operand.specs.Numbers.{Term, operand_of}
use Rattle.lower.specs.declared.Sizes.{Sizes}
use Rattle.lower.specs.Model.{operands_of}
use Rattle.lower.specs.Lists.{All}
use Rattle.lower.specs.Accepted.{ShiftsOf, MAX_DEFINITIONS, MAX_OTHERS}
use Rattle.lower.specs.Stores.{Stores, system_of, row_handles, handles_in}
use Rattle.lower.specs.Values.{value, word_of}
use Rattle.lower.specs.Faults.{unless, term_fault, operand_fault, memory_fault}
use Rattle.lower.proofs.Firsts.{else_some, else_first, else_second, unless_holds, first_none}
use Rattle.lower.proofs.Laws.{all_imp, map-after, operands_model}
use Rattle.lower.proofs.Refusals.{number_some}
use Rattle.lower.proofs.Checks.{Checked, checked, operand_in, operand_sound, memory_places, memory_others, memory_definitions}
use Rattle.evaluate.specs.Steps.{Ready, values_at, count_in}
use Rattle.evaluate.specs.Evaluation.{MAX_WRITTEN_TERMS, ROOM, SIZE, values_of, size_fault, evaluation_fault, values_by, numbered_by, EvaluateIs}

-- ---- what the checks in memory give

term_shifted : (w : ℕ) (t : Term) → term_fault w t ≡ 0 → ShiftsOf t
unfolding term_fault
term_shifted w t e =
    let f = else_second (unless (ltb t.wire w) 5) _ e in (
      unless_holds (valid_number t.inner) 4 (omega arith) (else_first (unless (valid_number t.inner) 4) _ f),
      unless_holds (valid_number t.outer) 4 (omega arith) (else_second (unless (valid_number t.inner) 4) _ f),
    )

-- the counts are within the limits, each list is as long as its count asks, and its operands are ready
pub record AllReady (z : Sizes) (s : Stores) : Type 0 where
  pub others_few : z.ands + z.imuls + z.bmuls + z.zeros ≤ MAX_OTHERS
  pub definitions_few : z.linears ≤ MAX_DEFINITIONS
  pub ands_in : 3 * z.ands ≤ length s.ands
  pub imuls_in : 4 * z.imuls ≤ length s.imuls
  pub bmuls_in : 6 * z.bmuls ≤ length s.bmuls
  pub zeros_in : z.zeros ≤ length s.zeros
  pub rhss_in : z.linears ≤ length s.rhss
  pub ands_ready : All (Ready s.old s.new) (take (3 * z.ands) s.ands)
  pub imuls_ready : All (Ready s.old s.new) (take (4 * z.imuls) s.imuls)
  pub bmuls_ready : All (Ready s.old s.new) (take (6 * z.bmuls) s.bmuls)
  pub zeros_ready : All (Ready s.old s.new) (take z.zeros s.zeros)
  pub rhss_ready : All (Ready s.old s.new) (take z.linears s.rhss)

module _ (z : Sizes) (s : Stores) (e : memory_fault MAX_WRITTEN_TERMS z s ≡ 0) where
  abbrev fine : Checked z s
  fine = checked z s (memory_places MAX_WRITTEN_TERMS z s e)

  ready : (h : ℕ) → operand_fault z.wires s.old s.new h ≡ 0 → Ready s.old s.new h
  ready h k =
      record {
        stands = operand_in z.wires s.old s.new h k;
        shifted =
            all_imp (λ t f. term_shifted z.wires t f) (operand_of s.old s.new h)
            (first_none (term_fault z.wires) (operand_of s.old s.new h) (operand_sound z.wires s.old s.new h k));
      }

  pub few : (z.ands + z.imuls + z.bmuls + z.zeros ≤ 1024) × (z.linears ≤ 1024)
  few = (memory_others MAX_WRITTEN_TERMS z s e, memory_definitions MAX_WRITTEN_TERMS z s e)

  pub all_ready : AllReady z s
  all_ready =
      record {
        others_few = few.0;
        definitions_few = few.1;
        ands_in = fine.ands_in;
        imuls_in = fine.imuls_in;
        bmuls_in = fine.bmuls_in;
        zeros_in = fine.zeros_in;
        rhss_in = fine.rhss_in;
        ands_ready = all_imp ready _ fine.ands_sound;
        imuls_ready = all_imp ready _ fine.imuls_sound;
        bmuls_ready = all_imp ready _ fine.bmuls_sound;
        zeros_ready = all_imp ready _ fine.zeros_sound;
        rhss_ready = all_imp ready _ fine.rhss_sound;
      }

  -- as many operands as the counts say
  handles_count : length (handles_in z s) ≡ count_in z
  unfolding row_handles
  handles_count =
      let a : List ℕ = take (3 * z.ands) s.ands in
      let i : List ℕ = take (4 * z.imuls) s.imuls in
      let b : List ℕ = take (6 * z.bmuls) s.bmuls in
      let o : List ℕ = take z.zeros s.zeros in
      let d : List ℕ = take z.linears s.rhss in
      omega (
        arith,
        length-append (a ++ (i ++ (b ++ o))) d,
        length-append a (i ++ (b ++ o)),
        length-append i (b ++ o),
        length-append b o,
        length-take-le _ _ fine.ands_in,
        length-take-le _ _ fine.imuls_in,
        length-take-le _ _ fine.bmuls_in,
        length-take-le _ _ fine.zeros_in,
        length-take-le _ _ fine.rhss_in,
      )

  pub operands_count : length (operands_of (system_of z s)) ≡ count_in z
  operands_count =
      ap length (operands_model z s fine.dsts_in fine.rhss_in)
      ∙ length-map (handles_in z s) (operand_of s.old s.new)
      ∙ handles_count

  pub values_model : (ws : List ℕ) → values_of (system_of z s) (word_of ws) ≡ values_at s.old s.new ws (handles_in z s)
  unfolding values_of values_at
  values_model ws =
      ap (map (value (word_of ws))) (operands_model z s fine.dsts_in fine.rhss_in)
      ∙ map-after (value (word_of ws)) (operand_of s.old s.new) (handles_in z s)

-- ---- the number

module _ (z : Sizes) (s : Stores) (n room : ℕ) where
  pub fault_memory : (f : ℕ) → f ≡ memory_fault MAX_WRITTEN_TERMS z s → (f ≡ 0 → ⊥) → f ≡ evaluation_fault z s n room
  unfolding evaluation_fault
  fault_memory f e h = rw (← e) (sym (else_some f _ h))

  module _ (e : memory_fault MAX_WRITTEN_TERMS z s ≡ 0) where
    pub fault_size : (n ≡ z.wires → ⊥) → SIZE ≡ evaluation_fault z s n room
    unfolding evaluation_fault
    fault_size h = rw (e, ne_eqb n z.wires h)

    module _ (h : n ≡ z.wires) where
      pub fault_room : room < length (operands_of (system_of z s)) → ROOM ≡ evaluation_fault z s n room
      unfolding evaluation_fault
      fault_room p = rw (e, eq-eqb n z.wires h, lt-leb _ _ p)

      pub fault_none : length (operands_of (system_of z s)) ≤ room → 0 ≡ evaluation_fault z s n room
      unfolding evaluation_fault
      fault_none p = rw (e, eq-eqb n z.wires h, le-leb _ _ p)

  module _ (e : evaluation_fault z s n room ≡ 0) where
    pub none_memory : memory_fault MAX_WRITTEN_TERMS z s ≡ 0
    unfolding evaluation_fault
    none_memory = else_first (memory_fault MAX_WRITTEN_TERMS z s) _ e

    pub none_size : n ≡ z.wires
    unfolding evaluation_fault
    none_size =
        let f = else_second (memory_fault MAX_WRITTEN_TERMS z s) _ e in
        eqb-true n z.wires (unless_holds (eqb n z.wires) SIZE (omega arith) (else_first (size_fault z.wires n) _ f))

    pub none_room : length (operands_of (system_of z s)) ≤ room
    unfolding evaluation_fault
    none_room =
        let f = else_second (memory_fault MAX_WRITTEN_TERMS z s) _ e in
        leb-true _ _ (unless_holds (leb (length (operands_of (system_of z s))) room) ROOM (omega arith) (else_second (size_fault z.wires n) _ f))

-- ---- the answer

module _ (z : Sizes) (s : Stores) (ws out : List ℕ) where
  abbrev f : ℕ
  f = evaluation_fault z s (length ws) (length out)

  -- a refusal, by which nothing is put
  pub evaluate_refused : (x : Result ℕ Refusal) (r : Refusal) → IsErrAnd x (λ y. y ≡ r) → number_of r ≡ f → EvaluateIs z s ws out x out
  unfolding numbered_by values_by
  evaluate_refused x r h e = let p = err_from_is_err_and x h in rw (p.1, p.2) (record { answer = e; tells = told f _ e; filled = kept f _ e })
    where
      told : (n : ℕ) (vs : List ℕ) → number_of r ≡ n → refused (number_of r) ≡ numbered_by n vs
      told zero vs e = absurd (number_some r e)
      told (suc n) vs e = ap refused e

      kept : (n : ℕ) (vs : List ℕ) → number_of r ≡ n → out ≡ sets out 0 (values_by n vs)
      kept zero vs e = absurd (number_some r e)
      kept (suc n) vs e = refl

  pub evaluate_done : 0 ≡ f → (n : ℕ) (out' : List ℕ) → n ≡ count_in z → out' ≡ sets out 0 (values_at s.old s.new ws (handles_in z s)) → EvaluateIs z s ws out (Ok n) out'
  unfolding values_by numbered_by
  evaluate_done e n out' a b =
      let k : f ≡ 0 = sym e in
      let y = none_memory z s (length ws) (length out) k in
      let m : n ≡ length (operands_of (system_of z s)) = a ∙ sym (operands_count z s y) in
      record { answer = e; tells = rw (k, m) refl; filled = rw (k, values_model z s y ws) b }
