-- The bytes of a house file (01, "House file").
--
--   le16 n             a number as two bytes
--   term_bytes t        a term: wire, inner shift number, outer shift number
--   operand_bytes o     an operand: its term count, then its terms
--   Entry              a field of tag 2 to 6: tag, destination (of a Linear; 0 elsewhere), operands
--   payload_bytes e     its payload; payload_size e, how many bytes that are
--   field_bytes         a field: tag byte, length of the payload, payload
--   entry_bytes e       the field of an entry; list_bytes es, the fields of several
--   file_bytes n es     the file of n wires and the entries es, in the order of es
--   entries_of p        the entries of a system, in tag order
--   file_of p           the file that a system is written as
--   system_from n es    the system that entries in any order are: the list of each kind in file order
--   sizes_in p          how many wires, rows and definitions a system has
--   arity tag          how many operands a field of the tag has
--   TermOk, EntryOk    what can stand in a file: wires below the wire count, valid shift numbers, a tag from 2 to 6 with its operands
--   Sound n es         entries of a file that is accepted: such ones, within the limits of 6
--   InFormat s         the bytes s are the file of sound entries
--
-- Assumes nothing.
use Rattle.std.specs.Prelude.{◌≡◌, true, cond, List, [], ◌∷◌, ◌++◌, map, ℕ, ◌+◌, ◌*◌, ◌/◌, ◌%◌, ◌≤◌, ◌<◌, eqb, length}
use Rattle.shift.specs.Shifts.{valid_number}
use Rattle.operand.specs.Numbers.{Term, Operand}
use Rattle.lower.specs.declared.Sizes.{Sizes}
use Rattle.lower.specs.Lists.{All, keep, joined, sum_of}
use Rattle.lower.specs.Model.{Row, Definition, System}
use Rattle.lower.specs.Accepted.{Limits, MAX_TERMS}

-- "all numbers little-endian"
abbrev pub le16 : ℕ → List ℕ
le16 n = n % 256 ∷ n / 256 ∷ []

-- "per term wire, inner shift number, outer shift number, 2 bytes each"
abbrev pub term_bytes : Term → List ℕ
term_bytes t = le16 t.wire ++ (le16 t.inner ++ le16 t.outer)

unfoldable pub terms_bytes : List Term → List ℕ
terms_bytes ts = joined (map term_bytes ts)

-- "An operand is a term count (2 bytes), then per term .."
abbrev pub operand_bytes : Operand → List ℕ
operand_bytes o = le16 (length o) ++ terms_bytes o

unfoldable pub operands_bytes : List Operand → List ℕ
operands_bytes os = joined (map operand_bytes os)

-- "2 And (a, b, c); 3 Imul (a, b, hi, lo); 4 Bmul (a_lo, a_hi, b_lo, b_hi, c_lo, c_hi); 5 Zero (val); 6 Linear (destination wire, 2 bytes,
-- then right side)"
pub record Entry : Type 0 where
  pub tag : ℕ
  pub dst : ℕ
  pub operands : List Operand

abbrev pub LINEAR : ℕ
LINEAR = 6

unfoldable pub payload_bytes : Entry → List ℕ
payload_bytes e = cond (eqb e.tag LINEAR) (le16 e.dst) [] ++ operands_bytes e.operands

-- "Fields: tag byte, length as two bytes, payload"
abbrev pub field_bytes : ℕ → List ℕ → List ℕ
field_bytes tag payload = tag ∷ (le16 (length payload) ++ payload)

unfoldable pub entry_bytes : Entry → List ℕ
entry_bytes e = field_bytes e.tag (payload_bytes e)

unfoldable pub list_bytes : List Entry → List ℕ
list_bytes es = joined (map (λ (e : Entry). entry_bytes e) es)

-- "Tag 1, always first: wire count (2 bytes) .. 7 end, empty, last"
unfoldable pub file_bytes : ℕ → List Entry → List ℕ
file_bytes wires es = field_bytes 1 (le16 wires) ++ (list_bytes es ++ field_bytes 7 [])

-- ---- systems

abbrev pub row_entry : ℕ → Row → Entry
row_entry tag r = record { tag = tag; dst = 0; operands = r }

abbrev pub linear_entry : Definition → Entry
linear_entry d = record { tag = LINEAR; dst = d.dst; operands = d.rhs ∷ [] }

-- "the writer in tag order"
unfoldable pub entries_of : System → List Entry
entries_of p =
    map (row_entry 2) p.ands
    ++ (map (row_entry 3) p.imuls ++ (map (row_entry 4) p.bmuls ++ (map (row_entry 5) p.zeros ++ map linear_entry p.linears)))

unfoldable pub file_of : System → List ℕ
file_of p = file_bytes p.wires (entries_of p)

abbrev pub of_kind : ℕ → List Entry → List Entry
of_kind kind es = keep (λ (e : Entry). eqb e.tag kind) es

abbrev pub rows_from : ℕ → List Entry → List Row
rows_from kind es = map (λ (e : Entry). e.operands) (of_kind kind es)

-- a Linear has one operand
abbrev pub definition_from : Entry → Definition
definition_from e = record { dst = e.dst; rhs = joined e.operands }

-- "The reader takes tags 2 to 6 in any order"
unfoldable pub system_from : ℕ → List Entry → System
system_from wires es =
    record {
      wires = wires;
      ands = rows_from 2 es;
      imuls = rows_from 3 es;
      bmuls = rows_from 4 es;
      zeros = rows_from 5 es;
      linears = map definition_from (of_kind LINEAR es);
    }

abbrev pub sizes_in : System → Sizes
sizes_in p =
    record {
      wires = p.wires;
      ands = length p.ands;
      imuls = length p.imuls;
      bmuls = length p.bmuls;
      zeros = length p.zeros;
      linears = length p.linears;
    }

-- ---- sizes in bytes

abbrev pub operand_size : Operand → ℕ
operand_size o = 2 + 6 * length o

unfoldable pub payload_size : Entry → ℕ
payload_size e = cond (eqb e.tag LINEAR) 2 0 + sum_of operand_size e.operands

-- the wire count's field and the end field have 5 and 3 bytes
unfoldable pub file_size : List Entry → ℕ
file_size es = 8 + sum_of (λ (e : Entry). 3 + payload_size e) es

-- ---- which entries can stand in a file that is accepted

unfoldable pub arity : ℕ → ℕ
arity tag = cond (eqb tag 2) 3 (cond (eqb tag 3) 4 (cond (eqb tag 4) 6 1))

-- "wire not below the wire count", "invalid shift number"
pub record TermOk (wires : ℕ) (t : Term) : Type 0 where
  pub wire_ok : t.wire < wires
  pub inner_ok : valid_number t.inner ≡ true
  pub outer_ok : valid_number t.outer ≡ true

pub record EntryOk (wires : ℕ) (e : Entry) : Type 0 where
  pub low : 2 ≤ e.tag
  pub high : e.tag ≤ 6
  pub dst_ok : e.dst < wires
  pub dst_none : (e.tag ≡ LINEAR → ⊥) → e.dst ≡ 0
  pub count_ok : length e.operands ≡ arity e.tag
  pub operands_ok : All (λ (o : Operand). All (TermOk wires) o) e.operands

pub record Sound (wires : ℕ) (es : List Entry) : Type 0 where
  pub entries_ok : All (EntryOk wires) es
  pub limits : Limits MAX_TERMS (system_from wires es)

pub record InFormat (s : List ℕ) : Type 0 where
  pub wires : ℕ
  pub entries : List Entry
  pub sound : Sound wires entries
  pub bytes_are : file_bytes wires entries ≡ s
