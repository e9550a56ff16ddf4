-- The checks in memory (01, "Numbers given back"): which number is given, 0 for none.
--
--   or_else a b       the first fault, or the second where there is none
--   unless b n       the fault n where the test fails
--   first_fault f l   the first fault of a list
--   term_fault        5 for the wire, 4 for the inner, 4 for the outer shift
--   operand_fault     3 past the end of its store, then its terms
--   rows_fault        3 where the list is too short for its count, then its operands in order
--   definitions_fault the same of the definitions, each destination before its right side
--   places_fault      3, 4 and 5: one pass, lists in tag order
--   full_fault        6, by the counts; terms are counted by operand length
--   memory_fault      3, 4, 5, 6: what every entry point checks first
--   definition_fault  8, 9, 10, each over the whole system before the next
--   fault_of          all of these
--
-- Assumes nothing.
use Rattle.std.specs.Prelude.{ℕ, zero, suc, ◌+◌, ◌*◌, Bool, true, false, not, ◌&&◌, ◌||◌, List, [], ◌∷◌, ltb, leb, eqb, length, take}
use Rattle.word.specs.Answers.{SHIFT}
use Rattle.shift.specs.Shifts.{valid_number}
use Rattle.operand.specs.Terms.{DOUBLE}
use Rattle.operand.specs.Numbers.{Term, Operand, operand_at, operand_of, within}
use Rattle.lower.specs.declared.Sizes.{Sizes}
use Rattle.lower.specs.Lists.{some_of, joined, sum_of}
use Rattle.lower.specs.Model.{System, definition_operands, terms_of, destinations, defines}
use Rattle.lower.specs.Accepted.{is_identity, MAX_WIRES, MAX_DEFINITIONS, MAX_OTHERS}
use Rattle.lower.specs.Stores.{Stores, handles_of, system_of}

-- "3 | SHAPE | .. in memory, see below"
abbrev pub SHAPE : ℕ
SHAPE = 3

-- "5 | WIRE | wire not below the wire count"
abbrev pub WIRE : ℕ
WIRE = 5

-- "6 | FULL | .."
abbrev pub FULL : ℕ
FULL = 6

-- "8 | TWICE | a wire defined twice"
abbrev pub TWICE : ℕ
TWICE = 8

-- "9 | EMPTY | a definition with no term"
abbrev pub EMPTY : ℕ
EMPTY = 9

abbrev pub or_else : ℕ → ℕ → ℕ
or_else zero b = b
or_else (suc a) b = suc a

abbrev pub unless : Bool → ℕ → ℕ
unless true n = 0
unless false n = n

abbrev pub first_fault : {A : Type 0} → (A → ℕ) → List A → ℕ
first_fault f [] = 0
first_fault f (x ∷ xs) = or_else (f x) (first_fault f xs)

-- "per term wire, inner, outer"
unfoldable pub term_fault : ℕ → Term → ℕ
term_fault wires t =
    or_else (unless (ltb t.wire wires) WIRE) (or_else (unless (valid_number t.inner) SHIFT) (unless (valid_number t.outer) SHIFT))

module _ (wires : ℕ) (old new : List ℕ) where
  -- "an operand past the end of its store is 3, before its terms"
  unfoldable pub operand_fault : ℕ → ℕ
  operand_fault h = or_else (unless (within old new (operand_at h)) SHAPE) (first_fault (term_fault wires) (operand_of old new h))

  unfoldable pub rows_fault : ℕ → ℕ → List ℕ → ℕ
  rows_fault k n hs = or_else (unless (leb (k * n) (length hs)) SHAPE) (first_fault operand_fault (take (k * n) hs))

  abbrev pub pairs_fault : List ℕ → List ℕ → ℕ
  pairs_fault [] hs = 0
  pairs_fault (d ∷ ds) [] = 0
  pairs_fault (d ∷ ds) (h ∷ hs) = or_else (or_else (unless (ltb d wires) WIRE) (operand_fault h)) (pairs_fault ds hs)

  unfoldable pub definitions_fault : ℕ → List ℕ → List ℕ → ℕ
  definitions_fault n ds hs =
      or_else (unless (leb n (length ds)) SHAPE) (or_else (unless (leb n (length hs)) SHAPE) (pairs_fault (take n ds) (take n hs)))

-- "lists in tag order"
unfoldable pub places_fault : Sizes → Stores → ℕ
places_fault z s =
    or_else (rows_fault z.wires s.old s.new 3 z.ands s.ands)
    (or_else (rows_fault z.wires s.old s.new 4 z.imuls s.imuls)
    (or_else (rows_fault z.wires s.old s.new 6 z.bmuls s.bmuls)
    (or_else (rows_fault z.wires s.old s.new 1 z.zeros s.zeros)
    (definitions_fault z.wires s.old s.new z.linears s.dsts s.rhss))))

-- "Terms are counted by operand length"
abbrev pub length_of : ℕ → ℕ
length_of h = (operand_at h).len

abbrev pub terms_in : Sizes → Stores → ℕ
terms_in z s = sum_of length_of (handles_of z s.ands s.imuls s.bmuls s.zeros s.rhss)

-- "wire count 0 or above 4,096; over 1,024 definitions, 1,024 other constraints in all, 8,192 terms"
unfoldable pub full_fault : ℕ → Sizes → ℕ → ℕ
full_fault limit z terms =
    or_else (unless (ltb 0 z.wires) FULL)
    (or_else (unless (leb z.wires MAX_WIRES) FULL)
    (or_else (unless (leb z.linears MAX_DEFINITIONS) FULL)
    (or_else (unless (leb (z.ands + z.imuls + z.bmuls + z.zeros) MAX_OTHERS) FULL)
    (unless (leb terms limit) FULL))))

unfoldable pub memory_fault : ℕ → Sizes → Stores → ℕ
memory_fault limit z s = or_else (places_fault z s) (full_fault limit z (terms_in z s))

-- some number of the list stands in it again
abbrev pub repeated : List ℕ → Bool
repeated [] = false
repeated (d ∷ ds) = some_of (eqb d) ds || repeated ds

abbrev pub twice : System → Bool
twice p = repeated (destinations p.linears)

abbrev pub is_empty : Operand → Bool
is_empty o = eqb (length o) 0

abbrev pub empty : System → Bool
empty p = some_of (λ (o : Operand). is_empty o) (definition_operands p)

abbrev pub is_double : Term → Bool
is_double t = not (is_identity t.outer)

-- "outer shift not an identity in a definition's term, or in any term naming a defined wire"
abbrev pub double : System → Bool
double p =
    some_of is_double (joined (definition_operands p))
    || some_of (λ (t : Term). is_double t && defines p.linears t.wire) (terms_of p)

unfoldable pub definition_fault : System → ℕ
definition_fault p = or_else (unless (not (twice p)) TWICE) (or_else (unless (not (empty p)) EMPTY) (unless (not (double p)) DOUBLE))

unfoldable pub fault_of : ℕ → Sizes → Stores → ℕ
fault_of limit z s = or_else (memory_fault limit z s) (definition_fault (system_of z s))
