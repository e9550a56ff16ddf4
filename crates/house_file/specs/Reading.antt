-- Reading a house file (01, "Numbers given back"): the first fault in byte order with the offset of its field's tag, or what the file
-- counts. A fault is its number, 0 is none.
--
--   CUT, TAG, ROOM, WIDE    the numbers that only files have
--   head_fault          "CUT of the tag part, TAG, CUT of the payload"
--   operand_fault       "too short, or a term count that cannot fit, is SHAPE; per term wire, inner, outer"; operands_fault, of k operands
--   destination_fault   a Linear's destination, its first part
--   payload_fault       "each part in turn .. then leftover SHAPE"
--   counted c tag t    the counts with one field of the tag and its t terms more; full_fault, "then FULL"
--   Small c            the counts are within the limits
--   file_read z t      what is counted: the sizes z, and t terms; done_of, by the counts
--   Fault, fault n at   a fault by its number, and the offset of its field; fault_of, that of the code's
--   by_number r        an answer, its fault by the number
--   placed r at        an answer of a part of the field at `at`: a refusal with that offset
--   field_fault         all faults of a field after the first, in their order
--   turn_of             one field: its fault, nothing at the end, or the place of the next
--   read_from           the fields from an offset on; follow, by what the first of them comes to
--   wires_fault         the first field
--   read_of s           what the bytes s are refused with, or what they count
--   entries_read s r    the entries that the answer r to s speaks of: none where it refuses
--   told_read           number and values of each case: a refusal by its number and the offset of its field; values_read, the values of an
--                      answer
--
-- Assumes nothing.
use Rattle.std.specs.Prelude.{ℕ, zero, suc, ◌+◌, ◌≤◌, cond, List, [], ◌∷◌, ltb, eqb, length, get_or, Option, Some, None, Result, Ok, Err}
use Rattle.refusal.specs.declared.Refusal.{Refusal}
use Rattle.refusal.specs.Refusals.{number_of}
use Rattle.word.specs.Answers.{Told, given, refused_at}
use Rattle.lower.specs.declared.Sizes.{Sizes}
use Rattle.lower.specs.Accepted.{MAX_WIRES, MAX_DEFINITIONS, MAX_OTHERS, MAX_TERMS}
use Rattle.lower.specs.Faults.{SHAPE, WIRE, FULL, or_else, first_fault, term_fault}
use Rattle.house_file.specs.Format.{Entry, LINEAR, arity}
use Rattle.house_file.specs.Decoding.{u16_at, terms_at, operand_next, operands_next, operands_terms, field_end, operands_start, entries_at}
use Rattle.house_file.specs.declared.Counts.{Counts}
use Rattle.house_file.specs.declared.FileRead.{FileRead}
use Rattle.house_file.specs.declared.FileFault.{FileFault}
use Rattle.house_file.specs.declared.Place.{Place}

-- "under 3 bytes left where a field must start, or payload beyond the input"
abbrev pub CUT : ℕ
CUT = 1

-- "first tag is not 1, or a later one is not 2 to 7"
abbrev pub TAG : ℕ
TAG = 2

-- "a lent store too short for the whole result"
abbrev pub ROOM : ℕ
ROOM = 12

-- "a record to write is over 65,535 payload bytes"
abbrev pub WIDE : ℕ
WIDE = 14

abbrev pub END : ℕ
END = 7

-- "CUT of the tag part, TAG, CUT of the payload": the field at `at`, of a tag from low to high
unfoldable pub head_fault : List ℕ → ℕ → ℕ → ℕ → ℕ
head_fault s low high at =
    cond (ltb (length s) (at + 3)) CUT
    (cond (ltb (get_or s at 0) low) TAG
    (cond (ltb high (get_or s at 0)) TAG
    (cond (ltb (length s) (field_end s at)) CUT 0)))

-- "too short, or a term count that cannot fit, is SHAPE; per term wire, inner, outer": an operand at `at` in a payload that ends at `end`
unfoldable pub operand_fault : List ℕ → ℕ → ℕ → ℕ → ℕ
operand_fault s wires end at =
    cond (ltb end (at + 2)) SHAPE
    (cond (ltb end (operand_next s at)) SHAPE (first_fault (term_fault wires) (terms_at s (u16_at s at) (at + 2))))

unfoldable pub operands_fault : List ℕ → ℕ → ℕ → ℕ → ℕ → ℕ
operands_fault s wires end zero at = 0
operands_fault s wires end (suc k) at = or_else (operand_fault s wires end at) (operands_fault s wires end k (operand_next s at))

-- "6 Linear (destination wire, 2 bytes, then right side)"
unfoldable pub destination_fault : List ℕ → ℕ → ℕ → ℕ → ℕ → ℕ
destination_fault s wires tag end at =
    cond (eqb tag LINEAR) (cond (ltb end (at + 2)) SHAPE (cond (ltb (u16_at s at) wires) 0 WIRE)) 0

-- "then each part in turn .. then leftover SHAPE": the payload from `at` to `end`
unfoldable pub payload_fault : List ℕ → ℕ → ℕ → ℕ → ℕ → ℕ
payload_fault s wires tag end at =
    or_else (destination_fault s wires tag end at)
    (or_else (operands_fault s wires end (arity tag) (operands_start tag at))
    (cond (ltb (operands_next s (arity tag) (operands_start tag at)) end) SHAPE 0))

abbrev pub one_if : ℕ → ℕ → ℕ
one_if tag kind = cond (eqb tag kind) 1 0

unfoldable pub counted : Counts → ℕ → ℕ → Counts
counted c tag terms =
    record {
      ands = c.ands + one_if tag 2;
      imuls = c.imuls + one_if tag 3;
      bmuls = c.bmuls + one_if tag 4;
      zeros = c.zeros + one_if tag 5;
      linears = c.linears + one_if tag LINEAR;
      terms = c.terms + terms;
    }

-- "over 1,024 definitions, 1,024 other constraints in all, 8,192 terms"
unfoldable pub full_fault : Counts → ℕ
full_fault c =
    cond (ltb MAX_DEFINITIONS c.linears) FULL
    (cond (ltb MAX_OTHERS (c.ands + c.imuls + c.bmuls + c.zeros)) FULL (cond (ltb MAX_TERMS c.terms) FULL 0))

abbrev pub Small : Counts → Type 0
Small c = (c.linears ≤ MAX_DEFINITIONS) × ((c.ands + c.imuls + c.bmuls + c.zeros ≤ MAX_OTHERS) × (c.terms ≤ MAX_TERMS))

-- the counts after the field at `at`, of a tag from 2 to 6
unfoldable pub counts_after : List ℕ → Counts → ℕ → Counts
counts_after s c at = counted c (get_or s at 0) (operands_terms s (arity (get_or s at 0)) (operands_start (get_or s at 0) (at + 3)))

-- "7 end, empty, last"
unfoldable pub field_fault : List ℕ → ℕ → Counts → ℕ → ℕ
field_fault s wires c at =
    or_else (head_fault s 2 END at)
    (cond (eqb (get_or s at 0) END)
    (cond (eqb (u16_at s (at + 1)) 0) 0 SHAPE)
    (or_else (payload_fault s wires (get_or s at 0) (field_end s at) (at + 3)) (full_fault (counts_after s c at))))

abbrev pub sizes_of : ℕ → Counts → Sizes
sizes_of wires c = record { wires = wires; ands = c.ands; imuls = c.imuls; bmuls = c.bmuls; zeros = c.zeros; linears = c.linears }

abbrev pub file_read : Sizes → ℕ → FileRead
file_read z terms = record { sizes = z; terms = terms }

abbrev pub done_of : ℕ → Counts → FileRead
done_of wires c = file_read (sizes_of wires c) c.terms

pub record Fault : Type 0 where
  pub number : ℕ
  pub at : ℕ

abbrev pub fault : ℕ → ℕ → Fault
fault number at = record { number = number; at = at }

abbrev pub fault_of : FileFault → Fault
fault_of f = fault (number_of f.refusal) f.at

abbrev pub by_number : {A : Type 0} → Result A FileFault → Result A Fault
by_number (Ok a) = Ok a
by_number (Err f) = Err (fault_of f)

abbrev pub placed : {A : Type 0} → Result A Refusal → ℕ → Result A FileFault
placed (Ok a) at = Ok a
placed (Err r) at = Err (record { refusal = r; at = at })

-- "for bytes after the end, of the first such byte"
abbrev pub after_end : List ℕ → ℕ → Result (Option Place) Fault
after_end s at = cond (ltb (at + 3) (length s)) (Err (fault SHAPE (at + 3))) (Ok None)

unfoldable pub turn_by : ℕ → List ℕ → Counts → ℕ → Result (Option Place) Fault
turn_by zero s c at = cond (eqb (get_or s at 0) END) (after_end s at) (Ok (Some (record { at = field_end s at; counts = counts_after s c at })))
turn_by (suc f) s c at = Err (fault (suc f) at)

unfoldable pub turn_of : List ℕ → ℕ → Counts → ℕ → Result (Option Place) Fault
turn_of s wires c at = turn_by (field_fault s wires c at) s c at

abbrev pub follow : ℕ → Counts → (Counts → ℕ → Result FileRead Fault) → Result (Option Place) Fault → Result FileRead Fault
follow wires c go (Err f) = Err f
follow wires c go (Ok None) = Ok (done_of wires c)
follow wires c go (Ok (Some p)) = go p.counts p.at

-- k is more than the fields that are left: each has three bytes and more
unfoldable pub read_from : List ℕ → ℕ → ℕ → Counts → ℕ → Result FileRead Fault
read_from s wires zero c at = Err (fault CUT at)
read_from s wires (suc k) c at = follow wires c (read_from s wires k) (turn_of s wires c at)

-- "Tag 1, always first: wire count (2 bytes)", "wire count 0 or above 4,096"
unfoldable pub wires_fault : List ℕ → ℕ
wires_fault s =
    or_else (head_fault s 1 1 0)
    (cond (eqb (u16_at s 1) 2) (cond (eqb (u16_at s 3) 0) FULL (cond (ltb MAX_WIRES (u16_at s 3)) FULL 0)) SHAPE)

abbrev pub none : Counts
none = record { ands = 0; imuls = 0; bmuls = 0; zeros = 0; linears = 0; terms = 0 }

abbrev pub read_by : ℕ → List ℕ → Result FileRead Fault
read_by zero s = read_from s (u16_at s 3) (length s) none 5
read_by (suc f) s = Err (fault (suc f) 0)

-- "The reader gives the first fault in byte order with the offset of its field's tag"
unfoldable pub read_of : List ℕ → Result FileRead Fault
read_of s = read_by (wires_fault s) s

-- how many fields stand between the first and the end
abbrev pub total : Sizes → ℕ
total z = z.ands + z.imuls + z.bmuls + z.zeros + z.linears

abbrev pub entries_read : {E : Type 0} → List ℕ → Result FileRead E → List Entry
entries_read s (Err _) = []
entries_read s (Ok r) = entries_at s (total r.sizes) 5

abbrev pub values_read : FileRead → List ℕ
values_read r =
    r.sizes.wires ∷ r.sizes.ands ∷ r.sizes.imuls ∷ r.sizes.bmuls ∷ r.sizes.zeros ∷ r.sizes.linears ∷ r.terms ∷ []

abbrev pub told_read : Result FileRead FileFault → Told
told_read (Err f) = refused_at (number_of f.refusal) f.at
told_read (Ok r) = given (values_read r)
