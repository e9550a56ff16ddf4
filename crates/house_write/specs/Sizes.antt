-- How many bytes a system takes in a file, counted by the lengths of its operands, before a byte is written.
--
--   handle_size h       bytes of the operand of number h; handles_size hs, of several
--   is_wide n           a payload of n bytes is "over 65,535 payload bytes"
--   rows_wide           some row's payload is; definitions_wide, some definition's; wides_in, some record's of the system
--   bytes_in            bytes of the whole file
--   Within             each list is as long as its count asks
--   Ready old new h    what writing an operand relies on: it stands in its store, and each number of its terms has two bytes
--
-- Assumes nothing.
use Rattle.std.specs.Prelude.{Bool, ◌||◌, List, ℕ, ◌+◌, ◌*◌, ◌≤◌, ◌<◌, ltb, length, take}
use Rattle.operand.specs.Numbers.{operand_at, terms_at}
use Rattle.lower.specs.declared.Sizes.{Sizes}
use Rattle.lower.specs.Lists.{All, some_of, sum_of}
use Rattle.lower.specs.Stores.{chunks, Stands}
use Rattle.lower.specs.Faults.{length_of}

-- "An operand is a term count (2 bytes), then per term wire, inner shift number, outer shift number, 2 bytes each"
abbrev pub handle_size : ℕ → ℕ
handle_size h = 2 + 6 * length_of h

unfoldable pub handles_size : List ℕ → ℕ
handles_size hs = sum_of handle_size hs

-- "a record to write is over 65,535 payload bytes"
abbrev pub MAX_PAYLOAD : ℕ
MAX_PAYLOAD = 65535

abbrev pub is_wide : ℕ → Bool
is_wide n = ltb MAX_PAYLOAD n

-- n rows of k operands each
unfoldable pub rows_wide : ℕ → ℕ → List ℕ → Bool
rows_wide k n hs = some_of (λ (r : List ℕ). is_wide (handles_size r)) (chunks k n hs)

unfoldable pub definitions_wide : List ℕ → Bool
definitions_wide hs = some_of (λ (h : ℕ). is_wide (2 + handle_size h)) hs

unfoldable pub wides_in : Sizes → List ℕ → List ℕ → List ℕ → List ℕ → List ℕ → Bool
wides_in z ands imuls bmuls zeros rhss =
    rows_wide 3 z.ands ands
    || (rows_wide 4 z.imuls imuls
    || (rows_wide 6 z.bmuls bmuls || (rows_wide 1 z.zeros zeros || definitions_wide (take z.linears rhss))))

-- the field of the wire count has 5 bytes, the end field 3; each record has a tag and a length, a definition its destination too
unfoldable pub bytes_in : Sizes → List ℕ → List ℕ → List ℕ → List ℕ → List ℕ → ℕ
bytes_in z ands imuls bmuls zeros rhss =
    8
    + (3 * z.ands + handles_size (take (3 * z.ands) ands))
    + (3 * z.imuls + handles_size (take (4 * z.imuls) imuls))
    + (3 * z.bmuls + handles_size (take (6 * z.bmuls) bmuls))
    + (3 * z.zeros + handles_size (take z.zeros zeros))
    + (5 * z.linears + handles_size (take z.linears rhss))

pub record Within (z : Sizes) (ands imuls bmuls zeros rhss : List ℕ) : Type 0 where
  pub ands_in : 3 * z.ands ≤ length ands
  pub imuls_in : 4 * z.imuls ≤ length imuls
  pub bmuls_in : 6 * z.bmuls ≤ length bmuls
  pub zeros_in : z.zeros ≤ length zeros
  pub rhss_in : z.linears ≤ length rhss

-- the three numbers of a term, one above the other
abbrev pub Short : ℕ → Type 0
Short t = t < 281474976710656

pub record Ready (old new : List ℕ) (h : ℕ) : Type 0 where
  pub stands : Stands old new h
  pub short : All Short (terms_at old new (operand_at h))
