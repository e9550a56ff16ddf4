-- What `read` answers and leaves (01, "Numbers given back").
--
--   Fits z             the counts are within the limits of 6
--   room_of             each store is long enough for the whole result
--   with_room r         the answer r to the bytes alone, or 12 where a store is too short
--   told_room r         number and offset, or the values, of the same
--   ReadIs             the answer, number and values of its case, and what each store holds afterwards: what the file says from its
--                      front on, and the rest as it was; on a refusal all as it was
--
-- Assumes nothing.
use Rattle.std.specs.Prelude.{◌≡◌, ℕ, ◌+◌, ◌*◌, ◌≤◌, Bool, cond, ◌&&◌, List, leb, length, Result, Ok, Err}
use Rattle.word.specs.Answers.{Told, given, refused_at}
use Rattle.lower.specs.declared.Sizes.{Sizes}
use Rattle.lower.specs.Accepted.{MAX_DEFINITIONS, MAX_OTHERS}
use Rattle.house_file.specs.Reading.{ROOM, Fault, fault, by_number, read_of, entries_read, values_read, told_read}
use Rattle.house_file.specs.declared.FileRead.{FileRead}
use Rattle.house_file.specs.declared.FileFault.{FileFault}
use Rattle.house_fill.specs.Layout.{Filled}

abbrev pub Fits : Sizes → Type 0
Fits z = (z.linears ≤ MAX_DEFINITIONS) × (z.ands + z.imuls + z.bmuls + z.zeros ≤ MAX_OTHERS)

-- "a lent store too short for the whole result": one number a term, 3, 4, 6 and 1 a row, a destination and a right side a definition
unfoldable pub room_of : Sizes → ℕ → ℕ → ℕ → ℕ → ℕ → ℕ → ℕ → ℕ → Bool
room_of z n terms ands imuls bmuls zeros dsts rhss =
    leb n terms
    && (leb (3 * z.ands) ands
    && (leb (4 * z.imuls) imuls && (leb (6 * z.bmuls) bmuls && (leb z.zeros zeros && (leb z.linears dsts && leb z.linears rhss)))))

-- "ROOM comes last, at the input's length"
unfoldable pub with_room : Result FileRead Fault → ℕ → ℕ → ℕ → ℕ → ℕ → ℕ → ℕ → ℕ → Result FileRead Fault
with_room (Err f) len terms ands imuls bmuls _ dsts rhss = Err f
with_room (Ok r) len terms ands imuls bmuls zeros dsts rhss =
    cond (room_of r.sizes r.terms terms ands imuls bmuls zeros dsts rhss) (Ok r) (Err (fault ROOM len))

unfoldable pub told_room : Result FileRead Fault → ℕ → ℕ → ℕ → ℕ → ℕ → ℕ → ℕ → ℕ → Told
told_room (Err f) len terms ands imuls bmuls _ dsts rhss = refused_at f.number f.at
told_room (Ok r) len terms ands imuls bmuls zeros dsts rhss =
    cond (room_of r.sizes r.terms terms ands imuls bmuls zeros dsts rhss) (given (values_read r)) (refused_at ROOM len)

pub record ReadIs (s terms ands imuls bmuls zeros dsts rhss : List ℕ) (r : Result FileRead FileFault) (terms' ands' imuls' bmuls' zeros' dsts' rhss' : List ℕ) : Type 0 where
  pub answer : by_number r ≡ with_room (read_of s) (length s) (length terms) (length ands) (length imuls) (length bmuls) (length zeros) (length dsts) (length rhss)
  pub tells : told_read r ≡ told_room (read_of s) (length s) (length terms) (length ands) (length imuls) (length bmuls) (length zeros) (length dsts) (length rhss)
  pub filled : Filled (entries_read s r) terms ands imuls bmuls zeros dsts rhss terms' ands' imuls' bmuls' zeros' dsts' rhss'
