-- Laws of the reading: what each step's fault comes to, and one more turn of each list. Assumes nothing.
use mathlib.Core.Path.{◌≡◌, refl, sym, ap, ◌∙◌}
use mathlib.Core.Bool.{Bool, true, false, cond}
use mathlib.Core.List.{List}
use Prim.Native.Nat.{ℕ, zero, suc, ◌+◌, ◌-◌, ◌*◌, ◌≤◌, ◌<◌}
use native.Mathlib.Nat.{not-suc-le-zero}
use native.Mathlib.Numerals.{sub-one}
use native.Mathlib.Omega.{arith}
use borrow.Author.Tests.{lt-ltb, le-ltb, eq-eqb, ne_eqb}
use lib.Dec.{ltb, eqb}
use lib.ListN.{length, get_or}
use Rattle.std.specs.Prelude.{Option, Some, None, Result, Ok, Err}
use Rattle.refusal.specs.declared.Refusal.{Refusal}
use Rattle.refusal.specs.declared.Refusal.TheVariants as R
use Rattle.refusal.specs.Refusals.{number_of}
use Rattle.lower.specs.Faults.{WIRE, or_else, first_fault, term_fault}
use Rattle.word.specs.Answers.{SHIFT}
use Rattle.shift.specs.Shifts.{valid_number, shift_at}
use Rattle.shift.specs.Answers.{found}
use Rattle.shift.specs.declared.Shift.{Shift}
use Rattle.house_file.specs.Format.{arity}
use Rattle.house_file.specs.Decoding.{u16_at, term_at, terms_at, operand_next, operands_next, operands_terms, field_end, operands_start}
use Rattle.house_file.specs.Reading.{Fault, fault, head_fault, operand_fault, operands_fault, destination_fault, payload_fault, counted, full_fault, Small, counts_after, field_fault, after_end, turn_by, turn_of, follow, read_from, wires_fault, none, read_by, read_of}
use Rattle.house_file.specs.declared.Counts.{Counts}
use Rattle.house_file.specs.declared.FileRead.{FileRead}
use Rattle.house_file.specs.declared.Place.{Place}
use Rattle.house_file.proofs.Faults.{number_above, first_told}
use Rattle.house_scan.specs.Parts.{end_fault, entry_fault}

-- ---- a shift by its number

pub shift_valid : (n : ℕ) (v : Shift) → found n ≡ Ok v → valid_number n ≡ true
shift_valid n v e = by (valid_number n) e
  where
    by : (b : Bool) → cond b (Ok (shift_at n)) (Err R.Shift) ≡ Ok v → b ≡ true
    by true h = refl
    by false h = cc

pub record IsNoShift (n : ℕ) (r : Refusal) : Type 0 where
  pub invalid : valid_number n ≡ false
  pub number : number_of r ≡ SHIFT

pub no_shift : (n : ℕ) (r : Refusal) → found n ≡ Err r → IsNoShift n r
no_shift n r e = by (valid_number n) refl e
  where
    by : (b : Bool) → valid_number n ≡ b → cond b (Ok (shift_at n)) (Err R.Shift) ≡ Err r → IsNoShift n r
    by true k h = cc
    by false k h = let q : r ≡ R.Shift = cc in record { invalid = k; number = ap number_of q }

-- ---- a term
module _ (s : List ℕ) (w at : ℕ) where
  pub term_wire : w ≤ u16_at s at → term_fault w (term_at s at) ≡ WIRE
  unfolding term_fault term_at
  term_wire h = simp (le-ltb _ _ h)

  pub term_inner : (r : Refusal) → u16_at s at < w → found (u16_at s (at + 2)) ≡ Err r → number_of r ≡ term_fault w (term_at s at)
  unfolding term_fault term_at
  term_inner r h e =
      let n = no_shift (u16_at s (at + 2)) r e in
      rw (lt-ltb _ _ h, n.invalid) n.number

  pub term_outer : (r : Refusal) {v : Shift} → u16_at s at < w → found (u16_at s (at + 2)) ≡ Ok v → found (u16_at s (at + 4)) ≡ Err r → number_of r ≡ term_fault w (term_at s at)
  unfolding term_fault term_at
  term_outer r {v} h d e =
      let m = shift_valid (u16_at s (at + 2)) v d in
      let n = no_shift (u16_at s (at + 4)) r e in
      rw (lt-ltb _ _ h, m, n.invalid) n.number

  pub term_sound : {v v' : Shift} → u16_at s at < w → found (u16_at s (at + 2)) ≡ Ok v → found (u16_at s (at + 4)) ≡ Ok v' → 0 ≡ term_fault w (term_at s at)
  unfolding term_fault term_at
  term_sound h d e = rw (lt-ltb _ _ h, shift_valid _ _ d, shift_valid _ _ e)

  -- the i-th term of n
  pub terms_step : (n i : ℕ) → i < n → first_fault (term_fault w) (terms_at s (n - i) (at + 6 * i))
      ≡ or_else (term_fault w (term_at s (at + 6 * i))) (first_fault (term_fault w) (terms_at s (n - (i + 1)) (at + 6 * (i + 1))))
  unfolding terms_at
  terms_step n i h =
      let k : n - i ≡ suc (n - (i + 1)) = omega arith in
      let p : at + 6 * i + 6 ≡ at + 6 * (i + 1) = omega arith in
      ap (λ (m : ℕ). first_fault (term_fault w) (terms_at s m (at + 6 * i))) k
      ∙ ap (λ (a : ℕ). or_else (term_fault w (term_at s (at + 6 * i))) (first_fault (term_fault w) (terms_at s (n - (i + 1)) a))) p

  pub terms_go : (n i : ℕ) → i < n → 0 ≡ term_fault w (term_at s (at + 6 * i))
      → first_fault (term_fault w) (terms_at s (n - i) (at + 6 * i)) ≡ first_fault (term_fault w) (terms_at s (n - (i + 1)) (at + 6 * (i + 1)))
  terms_go n i h e =
      terms_step n i h ∙ ap (λ (f : ℕ). or_else f (first_fault (term_fault w) (terms_at s (n - (i + 1)) (at + 6 * (i + 1))))) (sym e)

  pub terms_none : first_fault (term_fault w) (terms_at s 0 at) ≡ 0
  unfolding terms_at
  terms_none = refl

-- ---- an operand
module _ (s : List ℕ) (w end at : ℕ) where
  pub operand_short : end < at + 2 → operand_fault s w end at ≡ 3
  unfolding operand_fault
  operand_short h = simp (lt-ltb _ _ h)

  pub operand_over : at + 2 ≤ end → end < operand_next s at → operand_fault s w end at ≡ 3
  unfolding operand_fault
  operand_over h k = simp (le-ltb _ _ h, lt-ltb _ _ k)

  pub operand_in : at + 2 ≤ end → operand_next s at ≤ end → operand_fault s w end at ≡ first_fault (term_fault w) (terms_at s (u16_at s at) (at + 2))
  unfolding operand_fault
  operand_in h k = simp (le-ltb _ _ h, le-ltb _ _ k)

  -- the i-th operand of k
  pub operands_step : (k i : ℕ) → i < k → operands_fault s w end (k - i) at ≡ or_else (operand_fault s w end at) (operands_fault s w end (k - (i + 1)) (operand_next s at))
  unfolding operands_fault
  operands_step k i h = let e : k - i ≡ suc (k - (i + 1)) = omega arith in rw e

  pub operands_go : (k i : ℕ) → i < k → 0 ≡ operand_fault s w end at → operands_fault s w end (k - i) at ≡ operands_fault s w end (k - (i + 1)) (operand_next s at)
  operands_go k i h e =
      operands_step k i h ∙ ap (λ (f : ℕ). or_else f (operands_fault s w end (k - (i + 1)) (operand_next s at))) (sym e)

  pub operands_none : operands_fault s w end 0 at ≡ 0
  unfolding operands_fault
  operands_none = refl

module _ (s : List ℕ) (at : ℕ) where
  pub next_step : (k i : ℕ) → i < k → operands_next s (k - i) at ≡ operands_next s (k - (i + 1)) (operand_next s at)
  unfolding operands_next
  next_step k i h = let e : k - i ≡ suc (k - (i + 1)) = omega arith in rw e

  pub next_none : operands_next s 0 at ≡ at
  unfolding operands_next
  next_none = refl

  pub sum_step : (k i : ℕ) → i < k → operands_terms s (k - i) at ≡ u16_at s at + operands_terms s (k - (i + 1)) (operand_next s at)
  unfolding operands_terms
  sum_step k i h = let e : k - i ≡ suc (k - (i + 1)) = omega arith in rw e

  pub sum_none : operands_terms s 0 at ≡ 0
  unfolding operands_terms
  sum_none = refl

-- ---- a payload
module _ (s : List ℕ) (w tag end at : ℕ) where
  payload_is : payload_fault s w tag end at ≡ or_else (destination_fault s w tag end at) (or_else (operands_fault s w end (arity tag) (operands_start tag at)) (cond (ltb (operands_next s (arity tag) (operands_start tag at)) end) 3 0))
  unfolding payload_fault
  payload_is = refl

  pub payload_dest : (r : Refusal) → number_of r ≡ destination_fault s w tag end at → number_of r ≡ payload_fault s w tag end at
  payload_dest r e = first_told r _ e ∙ sym payload_is

  module _ (d : 0 ≡ destination_fault s w tag end at) {k b : ℕ} (h : k ≡ arity tag) (i : b ≡ operands_start tag at) where
    pub payload_operands : (r : Refusal) → number_of r ≡ operands_fault s w end k b → number_of r ≡ payload_fault s w tag end at
    payload_operands r e = rw (payload_is, ← d, ← h, ← i) (first_told r _ e)

    module _ (o : 0 ≡ operands_fault s w end k b) where
      pub payload_left : operands_next s k b < end → 3 ≡ payload_fault s w tag end at
      payload_left l = rw (payload_is, ← d, ← h, ← i, ← o, lt-ltb _ _ l)

      pub payload_fine : end ≤ operands_next s k b → 0 ≡ payload_fault s w tag end at
      payload_fine l = rw (payload_is, ← d, ← h, ← i, ← o, le-ltb _ _ l)

-- ---- an entry
module _ (s : List ℕ) (wires : ℕ) (c : Counts) (tag end at : ℕ) where
  pub entry_fine : (terms : ℕ) → payload_fault s wires tag end (at + 3) ≡ 0 → terms ≡ operands_terms s (arity tag) (operands_start tag (at + 3)) → full_fault (counted c tag terms) ≡ 0 → 0 ≡ entry_fault s wires c tag end at
  unfolding entry_fault
  entry_fine terms p t f = rw (p, ← t) (sym f)

-- ---- one field
module _ (s : List ℕ) (wires : ℕ) (c : Counts) (at : ℕ) where
  turn_told : (r : Refusal) (f : ℕ) → number_of r ≡ f → Err (fault (number_of r) at) ≡ turn_by f s c at
  unfolding turn_by
  turn_told r zero e = absurd (omega (arith, number_above r))
  turn_told r (suc f) e = rw e

  pub turn_shut : (r : Refusal) → number_of r ≡ head_fault s 2 7 at → Err (fault (number_of r) at) ≡ turn_of s wires c at
  unfolding turn_of field_fault
  turn_shut r e = turn_told r _ (first_told r _ e)

  end_by : (b : Bool) → get_or s at 0 ≡ 7 → turn_by (cond b 0 3) s c at ≡ cond b (after_end s at) (Err (fault 3 at))
  unfolding turn_by
  end_by true e = simp (eq-eqb _ _ e)
  end_by false e = refl

  turn_end : head_fault s 2 7 at ≡ 0 → get_or s at 0 ≡ 7 → turn_of s wires c at ≡ cond (eqb (u16_at s (at + 1)) 0) (after_end s at) (Err (fault 3 at))
  unfolding turn_of field_fault
  turn_end h e = simp (h, eq-eqb _ _ e) (end_by (eqb (u16_at s (at + 1)) 0) e)

  -- the end field is told by its own fault, or ends the reading
  pub turn_closed : head_fault s 2 7 at ≡ 0 → get_or s at 0 ≡ 7 → end_fault s at ≡ Ok tt → Ok None ≡ turn_of s wires c at
  unfolding end_fault
  turn_closed h e q = sym (turn_end h e ∙ by (eqb (u16_at s (at + 1)) 0) (ltb (at + 3) (length s)) q)
    where
      by : (b d : Bool) → cond {A = Result (Unit {0}) Fault} b (cond d (Err (fault 3 (at + 3))) (Ok tt)) (Err (fault 3 at)) ≡ Ok tt → cond {A = Result (Option Place) Fault} b (cond d (Err (fault 3 (at + 3))) (Ok None)) (Err (fault 3 at)) ≡ Ok None
      by true true q = cc
      by true false q = refl
      by false d q = cc

  pub turn_unclosed : (f : Fault) → head_fault s 2 7 at ≡ 0 → get_or s at 0 ≡ 7 → Err f ≡ end_fault s at → Err f ≡ turn_of s wires c at
  unfolding end_fault
  turn_unclosed f h e q = sym (turn_end h e ∙ by (eqb (u16_at s (at + 1)) 0) (ltb (at + 3) (length s)) q)
    where
      by : (b d : Bool) → Err f ≡ cond {A = Result (Unit {0}) Fault} b (cond d (Err (fault 3 (at + 3))) (Ok tt)) (Err (fault 3 at)) → cond {A = Result (Option Place) Fault} b (cond d (Err (fault 3 (at + 3))) (Ok None)) (Err (fault 3 at)) ≡ Err f
      by true true q = let k : f ≡ fault 3 (at + 3) = cc in rw k
      by true false q = cc
      by false d q = let k : f ≡ fault 3 at = cc in rw k

  module _ (h : head_fault s 2 7 at ≡ 0) (e : get_or s at 0 ≡ 7 → ⊥) where
    pub turn_refused : (r : Refusal) → number_of r ≡ entry_fault s wires c (get_or s at 0) (field_end s at) at → Err (fault (number_of r) at) ≡ turn_of s wires c at
    unfolding turn_of field_fault entry_fault counts_after
    turn_refused r q = simp (h, ne_eqb _ _ e) (turn_told r _ q)

    pub turn_go : 0 ≡ entry_fault s wires c (get_or s at 0) (field_end s at) at → Ok (Some (record { at = field_end s at; counts = counts_after s c at })) ≡ turn_of s wires c at
    unfolding turn_of turn_by field_fault entry_fault counts_after
    turn_go q = simp (h, ne_eqb _ _ e, ← q)

  pub read_step : (k : ℕ) → 0 < k → read_from s wires k c at ≡ follow wires c (read_from s wires (k - 1)) (turn_of s wires c at)
  unfolding read_from
  read_step zero h = absurd (not-suc-le-zero h)
  read_step (suc k) h = rw sub-one

-- where the reading stands: what is left gives the answer of the whole, with fuel enough
pub record Stands (s : List ℕ) (wires : ℕ) (p : Place) : Type 0 where
  pub fuel : ℕ
  pub enough : length s < p.at + fuel
  pub same : read_from s wires (length s) none 5 ≡ read_from s wires fuel p.counts p.at
  pub small : Small p.counts
  pub inside : p.at ≤ length s

module _ {s : List ℕ} {wires : ℕ} {p : Place} (st : Stands s wires p) where
  stands_turn : read_from s wires (length s) none 5 ≡ follow wires p.counts (read_from s wires (st.fuel - 1)) (turn_of s wires p.counts p.at)
  stands_turn = st.same ∙ read_step s wires p.counts p.at st.fuel (omega (arith, st.enough, st.inside))

  pub stands_stop : (f : Fault) → Err f ≡ turn_of s wires p.counts p.at → Err f ≡ read_from s wires (length s) none 5
  stands_stop f e = sym (rw (← e) at stands_turn)

  pub stands_end : Ok None ≡ turn_of s wires p.counts p.at → read_from s wires (length s) none 5 ≡ follow wires p.counts (read_from s wires (st.fuel - 1)) (Ok None)
  stands_end e = rw (← e) at stands_turn

  pub stands_go : (q : Place) → Ok (Some q) ≡ turn_of s wires p.counts p.at → (p.at + 3 ≤ q.at) × ((q.at ≤ length s) × Small q.counts) → Stands s wires q
  stands_go q e h = record {
    fuel = st.fuel - 1;
    enough = omega (arith, st.enough, st.inside);
    same = rw (← e) at stands_turn;
    small = h.1.1;
    inside = h.1.0;
  }

-- ---- the first field, and the whole file
module _ (s : List ℕ) where
  pub wires_shut : (r : Refusal) → number_of r ≡ head_fault s 1 1 0 → number_of r ≡ wires_fault s
  unfolding wires_fault
  wires_shut r e = first_told r _ e

  module _ (h : 0 ≡ head_fault s 1 1 0) where
    pub wires_shape : (u16_at s 1 ≡ 2 → ⊥) → 3 ≡ wires_fault s
    unfolding wires_fault
    wires_shape e = simp (← h, ne_eqb _ _ e)

    module _ (e : u16_at s 1 ≡ 2) where
      pub wires_zero : u16_at s 3 ≡ 0 → 6 ≡ wires_fault s
      unfolding wires_fault
      wires_zero k = simp (← h, eq-eqb _ _ e, eq-eqb _ _ k)

      pub wires_over : (u16_at s 3 ≡ 0 → ⊥) → 4096 < u16_at s 3 → 6 ≡ wires_fault s
      unfolding wires_fault
      wires_over k l = simp (← h, eq-eqb _ _ e, ne_eqb _ _ k, lt-ltb _ _ l)

      pub wires_fine : (u16_at s 3 ≡ 0 → ⊥) → u16_at s 3 ≤ 4096 → 0 ≡ wires_fault s
      unfolding wires_fault
      wires_fine k l = simp (← h, eq-eqb _ _ e, ne_eqb _ _ k, le-ltb _ _ l)

  read_told : (r : Refusal) (f : ℕ) → number_of r ≡ f → Err (fault (number_of r) 0) ≡ read_by f s
  read_told r zero e = absurd (omega (arith, number_above r))
  read_told r (suc f) e = rw e

  pub scan_shut : (r : Refusal) → number_of r ≡ wires_fault s → Err (fault (number_of r) 0) ≡ read_of s
  unfolding read_of
  scan_shut r e = read_told r _ e

  pub scan_in : 0 ≡ wires_fault s → read_from s (u16_at s 3) (length s) none 5 ≡ read_of s
  unfolding read_of
  scan_in e = rw (← e)
