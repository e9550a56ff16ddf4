-- Reading at small files, and at one that goes over a limit: what the definition gives is computed. Assumes nothing.
use mathlib.Core.Path.{◌≡◌, refl, sym, ap, ◌∙◌}
use mathlib.Core.List.{List, [], ◌∷◌}
use Prim.Native.Nat.{ℕ, zero, suc, ◌+◌, ◌*◌, ◌≤◌, ◌<◌}
use native.Mathlib.Nat.{add-zero}
use native.Mathlib.Omega.{arith}
use lib.ListN.{length, get_or, drop, length-drop}
use lib.Seq.{get_or-drop, drop-drop}
use borrow.Author.Tests.{le-ltb}
use Rattle.operand.specs.Numbers.{Term}
use Rattle.lower.specs.declared.Sizes.{Sizes}
use Rattle.lower.specs.Model.{System}
use Rattle.lower.specs.Faults.{SHAPE, WIRE, FULL, term_fault}
use Rattle.word.specs.Answers.{SHIFT}
use Rattle.house_file.specs.Format.{terms_bytes, operands_bytes, payload_bytes, entry_bytes, list_bytes, file_bytes, entries_of, file_of, system_from, arity}
use Rattle.house_file.specs.Decoding.{u16_at, term_at, terms_at, operands_at, operands_next, operands_terms, operands_start, entry_at, entries_at}
use Rattle.house_file.specs.Reading.{CUT, TAG, END, head_fault, operand_fault, operands_fault, destination_fault, payload_fault, counted, full_fault, counts_after, field_fault, turn_by, turn_of, Fault, fault, follow, read_from, wires_fault, read_by, read_of, entries_read}
use Rattle.house_file.specs.declared.Counts.{Counts}
use Rattle.house_file.specs.declared.FileRead.{FileRead}
use Rattle.house_file.specs.declared.Place.{Place}
use Rattle.std.specs.Prelude.{Option, Some, Result, Ok, Err}

abbrev term : ℕ → ℕ → Term
term w s = record { wire = w; inner = s; outer = 0 }

-- 01's example: a Zero of wire 1 shifted left by 40, wire 1 is wire 2 shifted so, wire 2 is wire 0
abbrev pub example : List ℕ
example =
    1 ∷ 2 ∷ 0 ∷ 3 ∷ 0
    ∷ 5 ∷ 8 ∷ 0 ∷ 1 ∷ 0 ∷ 1 ∷ 0 ∷ 40 ∷ 0 ∷ 0 ∷ 0
    ∷ 6 ∷ 10 ∷ 0 ∷ 1 ∷ 0 ∷ 1 ∷ 0 ∷ 2 ∷ 0 ∷ 40 ∷ 0 ∷ 0 ∷ 0
    ∷ 6 ∷ 10 ∷ 0 ∷ 2 ∷ 0 ∷ 1 ∷ 0 ∷ 0 ∷ 0 ∷ 0 ∷ 0 ∷ 0 ∷ 0
    ∷ 7 ∷ 0 ∷ 0 ∷ []

abbrev system : System
system =
    record {
      wires = 3;
      ands = [];
      imuls = [];
      bmuls = [];
      zeros = ((term 1 40 ∷ []) ∷ []) ∷ [];
      linears = record { dst = 1; rhs = term 2 40 ∷ [] } ∷ record { dst = 2; rhs = term 0 0 ∷ [] } ∷ [];
    }

pub example_written : file_of system ≡ example
unfolding file_of file_bytes entries_of list_bytes entry_bytes payload_bytes operands_bytes terms_bytes
example_written = refl

abbrev sizes : Sizes
sizes = record { wires = 3; ands = 0; imuls = 0; bmuls = 0; zeros = 1; linears = 2 }

pub example_read : read_of example ≡ Ok (record { sizes = sizes; terms = 3 })
unfolding read_of wires_fault read_from turn_of turn_by field_fault counts_after full_fault counted payload_fault destination_fault operands_fault operand_fault head_fault term_fault arity u16_at term_at terms_at operands_next operands_terms operands_start
example_read = refl

pub example_system : system_from 3 (entries_read {E = Fault} example (Ok (record { sizes = sizes; terms = 3 }))) ≡ system
unfolding system_from entries_at entry_at operands_at terms_at term_at u16_at arity operands_start
example_system = refl

-- nothing; two bytes of a bad tag; no end field; a bad tag whose payload lies beyond the input; the first tag again; a wire count of 0
pub empty_cut : read_of [] ≡ Err (fault CUT 0)
unfolding read_of wires_fault head_fault
empty_cut = refl

pub short_cut : read_of (9 ∷ 9 ∷ []) ≡ Err (fault CUT 0)
unfolding read_of wires_fault head_fault
short_cut = refl

pub endless_cut : read_of (1 ∷ 2 ∷ 0 ∷ 1 ∷ 0 ∷ []) ≡ Err (fault CUT 5)
unfolding read_of wires_fault read_from turn_of turn_by field_fault head_fault u16_at
endless_cut = refl

pub beyond_tag : read_of (1 ∷ 2 ∷ 0 ∷ 1 ∷ 0 ∷ 8 ∷ 1 ∷ 0 ∷ []) ≡ Err (fault TAG 5)
unfolding read_of wires_fault read_from turn_of turn_by field_fault head_fault u16_at
beyond_tag = refl

pub again_tag : read_of (1 ∷ 2 ∷ 0 ∷ 1 ∷ 0 ∷ 1 ∷ 2 ∷ 0 ∷ 1 ∷ 0 ∷ 7 ∷ 0 ∷ 0 ∷ []) ≡ Err (fault TAG 5)
unfolding read_of wires_fault read_from turn_of turn_by field_fault head_fault u16_at
again_tag = refl

pub wireless_full : read_of (1 ∷ 2 ∷ 0 ∷ 0 ∷ 0 ∷ 7 ∷ 0 ∷ 0 ∷ []) ≡ Err (fault FULL 0)
unfolding read_of wires_fault head_fault u16_at
wireless_full = refl

-- a first field of three bytes, whose wire count of 0 is not looked at
pub first_shape : read_of (1 ∷ 3 ∷ 0 ∷ 0 ∷ 0 ∷ 0 ∷ 7 ∷ 0 ∷ 0 ∷ []) ≡ Err (fault SHAPE 0)
unfolding read_of wires_fault head_fault u16_at
first_shape = refl

-- an end field with a payload; a byte after the end field
pub end_shape : read_of (1 ∷ 2 ∷ 0 ∷ 1 ∷ 0 ∷ 7 ∷ 1 ∷ 0 ∷ 0 ∷ []) ≡ Err (fault SHAPE 5)
unfolding read_of wires_fault read_from turn_of turn_by field_fault head_fault u16_at
end_shape = refl

pub after-shape : read_of (1 ∷ 2 ∷ 0 ∷ 1 ∷ 0 ∷ 7 ∷ 0 ∷ 0 ∷ 7 ∷ []) ≡ Err (fault SHAPE 8)
unfolding read_of wires_fault read_from turn_of turn_by field_fault head_fault u16_at
after-shape = refl

-- an And whose first operand takes the whole payload and names a wire that there is not
pub first_wire : read_of (1 ∷ 2 ∷ 0 ∷ 1 ∷ 0 ∷ 2 ∷ 8 ∷ 0 ∷ 1 ∷ 0 ∷ 5 ∷ 0 ∷ 0 ∷ 0 ∷ 0 ∷ 0 ∷ 7 ∷ 0 ∷ 0 ∷ []) ≡ Err (fault WIRE 5)
unfolding read_of wires_fault read_from turn_of turn_by field_fault counts_after full_fault counted payload_fault destination_fault operands_fault operand_fault head_fault term_fault arity u16_at term_at terms_at operands_next operands_terms operands_start
first_wire = refl

-- the same with a wire that there is: the second operand is missing
pub second_shape : read_of (1 ∷ 2 ∷ 0 ∷ 1 ∷ 0 ∷ 2 ∷ 8 ∷ 0 ∷ 1 ∷ 0 ∷ 0 ∷ 0 ∷ 0 ∷ 0 ∷ 0 ∷ 0 ∷ 7 ∷ 0 ∷ 0 ∷ []) ≡ Err (fault SHAPE 5)
unfolding read_of wires_fault read_from turn_of turn_by field_fault counts_after full_fault counted payload_fault destination_fault operands_fault operand_fault head_fault term_fault arity u16_at term_at terms_at operands_next operands_terms operands_start
second_shape = refl

-- a Linear whose destination is a wire that there is not, and whose right side is too short: the destination comes first
pub destination_wire : read_of (1 ∷ 2 ∷ 0 ∷ 1 ∷ 0 ∷ 6 ∷ 3 ∷ 0 ∷ 1 ∷ 0 ∷ 9 ∷ 7 ∷ 0 ∷ 0 ∷ []) ≡ Err (fault WIRE 5)
unfolding read_of wires_fault read_from turn_of turn_by field_fault counts_after full_fault counted payload_fault destination_fault operands_fault operand_fault head_fault term_fault arity u16_at term_at terms_at operands_next operands_terms operands_start
destination_wire = refl

-- an outer shift of a half-word variant by 32
pub half_shift : read_of (1 ∷ 2 ∷ 0 ∷ 1 ∷ 0 ∷ 6 ∷ 10 ∷ 0 ∷ 0 ∷ 0 ∷ 1 ∷ 0 ∷ 0 ∷ 0 ∷ 0 ∷ 0 ∷ 32 ∷ 1 ∷ 7 ∷ 0 ∷ 0 ∷ []) ≡ Err (fault SHIFT 5)
unfolding read_of wires_fault read_from turn_of turn_by field_fault counts_after full_fault counted payload_fault destination_fault operands_fault operand_fault head_fault term_fault arity u16_at term_at terms_at operands_next operands_terms operands_start
half_shift = refl

-- an operand with a byte left over
pub left-shape : read_of (1 ∷ 2 ∷ 0 ∷ 1 ∷ 0 ∷ 5 ∷ 3 ∷ 0 ∷ 0 ∷ 0 ∷ 0 ∷ 7 ∷ 0 ∷ 0 ∷ []) ≡ Err (fault SHAPE 5)
unfolding read_of wires_fault read_from turn_of turn_by field_fault counts_after full_fault counted payload_fault destination_fault operands_fault operand_fault head_fault term_fault arity u16_at term_at terms_at operands_next operands_terms operands_start
left-shape = refl

-- ---- 1,024 Zeros of an empty operand, and one more

abbrev zeros_then : ℕ → List ℕ → List ℕ
zeros_then zero s = s
zeros_then (suc n) s = 5 ∷ 2 ∷ 0 ∷ 0 ∷ 0 ∷ zeros_then n s

abbrev zeros_met_lem : ℕ → Counts
zeros_met_lem n = record { ands = 0; imuls = 0; bmuls = 0; zeros = n; linears = 0; terms = 0 }

module _ (s : List ℕ) (at : ℕ) (l : List ℕ) (d : drop at s ≡ 5 ∷ 2 ∷ 0 ∷ 0 ∷ 0 ∷ l) where
  byte_is : (i : ℕ) → get_or s (at + i) 0 ≡ get_or (5 ∷ 2 ∷ 0 ∷ 0 ∷ 0 ∷ l) i 0
  byte_is i = sym (get_or-drop at s i 0) ∙ ap (λ (x : List ℕ). get_or x i 0) d

  tag_is : get_or s at 0 ≡ 5
  tag_is = ap (λ (j : ℕ). get_or s j 0) (sym (add-zero at)) ∙ byte_is 0

  size_is : u16_at s (at + 1) ≡ 2
  unfolding u16_at
  size_is = let e : at + 1 + 1 ≡ at + 2 = omega arith in rw (e, byte_is 1, byte_is 2)

  count_is : u16_at s (at + 3) ≡ 0
  unfolding u16_at
  count_is = let e : at + 3 + 1 ≡ at + 4 = omega arith in rw (e, byte_is 3, byte_is 4)

  five_there : at + 5 ≤ length s
  five_there = omega (arith, ap length d, length-drop at s)

  head_none : head_fault s 2 END at ≡ 0
  unfolding head_fault
  head_none = rw (tag_is, size_is, le-ltb (length s) (at + 3) (omega (arith, five_there)), le-ltb (length s) (at + 3 + 2) (omega (arith, five_there)))

  payload_none : payload_fault s 1 5 (at + 3 + 2) (at + 3) ≡ 0
  unfolding payload_fault destination_fault operands_fault operand_fault operands_next operands_start arity terms_at
  payload_none = rw (count_is, le-ltb (at + 3 + 2) (at + 3 + 2) (omega arith), le-ltb (at + 3 + 2) (at + 3 + 2 + 0) (omega arith), le-ltb (at + 3 + 2 + 0) (at + 3 + 2) (omega arith))

  counts_are : (n : ℕ) → counts_after s (zeros_met_lem n) at ≡ zeros_met_lem (n + 1)
  unfolding counts_after counted operands_terms operands_start arity
  counts_are n = rw (tag_is, count_is)

  field_is : (n : ℕ) → field_fault s 1 (zeros_met_lem n) at ≡ full_fault (zeros_met_lem (n + 1))
  unfolding field_fault
  field_is n = rw (head_none, tag_is, size_is, payload_none, counts_are n)

  full_none : (n : ℕ) → n < 1024 → full_fault (zeros_met_lem (n + 1)) ≡ 0
  unfolding full_fault
  full_none n h = rw (le-ltb 1024 (0 + (n + 1)) (omega arith))

  turn_is : (n : ℕ) → n < 1024 → turn_of s 1 (zeros_met_lem n) at ≡ Ok (Some (record { at = at + 3 + 2; counts = zeros_met_lem (n + 1) }))
  unfolding turn_of turn_by
  turn_is n h = rw (field_is n, full_none n h, tag_is, size_is, counts_are n)

  rest_is : drop (at + 3 + 2) s ≡ l
  rest_is = let e : at + 3 + 2 ≡ at + 5 = omega arith in rw e (sym (drop-drop 5 at s) ∙ ap (drop 5) d)

zeros_met : (s : List ℕ) (m n k at : ℕ) (r : List ℕ) → n + m ≤ 1024 → drop at s ≡ zeros_then m r → read_from s 1 (k + m) (zeros_met_lem n) at ≡ read_from s 1 k (zeros_met_lem (n + m)) (at + 5 * m)
unfolding read_from
zeros_met s zero n k at r h d = rw (add-zero k, add-zero n, add-zero at)
zeros_met s (suc m) n k at r h d =
    let c : n + 1 + m ≡ n + suc m = omega arith in
    let e : at + 3 + 2 + 5 * m ≡ at + 5 * suc m = omega arith in
    let q : k + suc m ≡ suc (k + m) = omega arith in
    ap (λ (j : ℕ). read_from s 1 j (zeros_met_lem n) at) q
    ∙ ap (λ (x : Result (Option Place) Fault). follow 1 (zeros_met_lem n) (read_from s 1 (k + m)) x) (turn_is s at (zeros_then m r) d n (omega arith))
    ∙ zeros_met s m (n + 1) k (at + 3 + 2) r (omega arith) (rest_is s at (zeros_then m r) d)
    ∙ ap (λ (j : ℕ). read_from s 1 k (zeros_met_lem j) (at + 3 + 2 + 5 * m)) c
    ∙ ap (read_from s 1 k (zeros_met_lem (n + suc m))) e

abbrev many_then : List ℕ → List ℕ
many_then r = 1 ∷ 2 ∷ 0 ∷ 1 ∷ 0 ∷ zeros_then 1024 r

many_met : (r : List ℕ) (k : ℕ) (x : Result FileRead Fault) → wires_fault (many_then r) ≡ 0 → length (many_then r) ≡ k + 1024 → read_from (many_then r) 1 k (zeros_met_lem 1024) 5125 ≡ x → read_of (many_then r) ≡ x
unfolding read_of u16_at
many_met r k x f l e =
    ap (λ (m : ℕ). read_by m (many_then r)) f
    ∙ ap (λ (m : ℕ). read_from (many_then r) 1 m (zeros_met_lem 0) 5) l
    ∙ zeros_met (many_then r) 1024 0 k 5 r (omega arith) refl
    ∙ e

-- a Zero more is FULL at its own field
pub over_full : read_of (many_then (5 ∷ 2 ∷ 0 ∷ 0 ∷ 0 ∷ 7 ∷ 0 ∷ 0 ∷ [])) ≡ Err (fault FULL 5125)
unfolding wires_fault read_from turn_of turn_by field_fault counts_after full_fault counted payload_fault destination_fault operands_fault operand_fault head_fault term_fault arity u16_at term_at terms_at operands_next operands_terms operands_start
over_full = many_met (5 ∷ 2 ∷ 0 ∷ 0 ∷ 0 ∷ 7 ∷ 0 ∷ 0 ∷ []) 4109 (Err (fault FULL 5125)) refl refl refl

-- with a byte left over it is SHAPE
pub over-shape : read_of (many_then (5 ∷ 3 ∷ 0 ∷ 0 ∷ 0 ∷ 0 ∷ 7 ∷ 0 ∷ 0 ∷ [])) ≡ Err (fault SHAPE 5125)
unfolding wires_fault read_from turn_of turn_by field_fault counts_after full_fault counted payload_fault destination_fault operands_fault operand_fault head_fault term_fault arity u16_at term_at terms_at operands_next operands_terms operands_start
over-shape = many_met (5 ∷ 3 ∷ 0 ∷ 0 ∷ 0 ∷ 0 ∷ 7 ∷ 0 ∷ 0 ∷ []) 4110 (Err (fault SHAPE 5125)) refl refl refl
