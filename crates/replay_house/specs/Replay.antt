-- The replay of house files: what its parts come to.
--
--   number_at s at     a number of four bytes, the low one first; 0 where they are not all there
--   counted t b       one more check, right or wrong
--   with_number t n    what was counted, with the number n in the digest; with_bytes t bs, with all of bs
--   refused_seen       a file that is not read; done_seen, one that is, with what writing gave; written_seen, by the writer's answer, and
--                      outcome_seen, by its fault and the length
--   same_seen          all numbers of the two are the same
--   expected_at        what a vector asks of a file: nine numbers, if they are there; a file that is read is written again in as many bytes
--   meets_asked        that was seen
--   Held, passOf      what reading a file leaves in stores of 8,192 terms and the limits' rows and definitions, and what writing that gives
--   Passed            that, and the lent bytes afterwards
--   State             the two lent stores of bytes, and what was counted
--   again_of           what was written is read and written once more: it changes nothing
--   vector_of          one vector: read, written, held against what it asks, and again where it is read
--   vectors_of         so many vectors from an offset on
--   term_made ..       the i-th term, operand and wire of a system that is made; made_from f i n, n of them from the i-th on
--   case_of ..         a case: what is made, and what has to come of it
--   cut_at file end    where the field starts that a file cut at `end` lacks the end of
--   made_stores c      the stores of the system of a case
--
-- Assumes nothing.
use Rattle.std.specs.Prelude.{◌≡◌, ℕ, zero, suc, ◌+◌, ◌*◌, ◌/◌, ◌%◌, ◌^◌, Bool, false, cond, ◌&&◌, List, [], ◌∷◌, length, take, drop, replicate, ◌==◌, nat_le, nat_lt, Option, Some, None, Result, Ok, Err}
use Rattle.std.proofs.lemmas.List.Edits.{sets}
use Rattle.refusal.specs.declared.Refusal.{Refusal}
use Rattle.refusal.specs.Refusals.{number_of}
use Rattle.operand.specs.Numbers.{term_number, operand_number}
use Rattle.lower.specs.declared.Sizes.{Sizes}
use Rattle.lower.specs.Stores.{Stores, stores, system_of}
use Rattle.house_file.specs.Format.{Entry, LINEAR, file_of, file_size, entries_of}
use Rattle.house_file.specs.Decoding.{u16_at, field_end}
use Rattle.house_file.specs.Reading.{Fault, read_of, entries_read}
use Rattle.house_file.specs.declared.FileRead.{FileRead}
use Rattle.house_fill.specs.Layout.{terms_laid, list_laid, destinations_laid}
use Rattle.house_read.specs.Answer.{with_room}
use Rattle.house_write.specs.Write.{write_fault, bytes_by}
use Rattle.replaying.specs.Places.{mixed, digest_of, same_from}
use Rattle.replay_house.specs.declared.tally.Tally.{Tally}
use Rattle.replay_house.specs.declared.pass.Seen.{Seen}
use Rattle.replay_house.specs.declared.limits.Case.{Case}
use Rattle.replay_house.specs.declared.limits.Outcome.{Outcome}

unfoldable pub number_at : List ℕ → ℕ → ℕ
number_at s at = cond (nat_le (at + 4) (length s)) (u16_at s at + 65536 * u16_at s (at + 2)) 0

-- ---- checks and digest

abbrev pub counted : Tally → Bool → Tally
counted t b =
    record {
      right = cond b ((t.right + 1) % 2 ^ 64) t.right;
      wrong = cond b t.wrong ((t.wrong + 1) % 2 ^ 64);
      digest = t.digest;
    }

abbrev pub with_number : Tally → ℕ → Tally
with_number t n = record { right = t.right; wrong = t.wrong; digest = mixed t.digest n }

abbrev pub with_bytes : Tally → List ℕ → Tally
with_bytes t bs = record { right = t.right; wrong = t.wrong; digest = digest_of bs t.digest }

-- ---- one file

abbrev pub refused_seen : ℕ → ℕ → Seen
refused_seen n at =
    record { number = n; at = at; wires = 0; ands = 0; imuls = 0; bmuls = 0; zeros = 0; linears = 0; terms = 0; written = 0; length = 0 }

abbrev pub done_seen : FileRead → ℕ → ℕ → Seen
done_seen r written length =
    record {
      number = 0;
      at = 0;
      wires = r.sizes.wires;
      ands = r.sizes.ands;
      imuls = r.sizes.imuls;
      bmuls = r.sizes.bmuls;
      zeros = r.sizes.zeros;
      linears = r.sizes.linears;
      terms = r.terms;
      written = written;
      length = length;
    }

abbrev pub written_seen : FileRead → Result ℕ Refusal → Seen
written_seen r (Ok n) = done_seen r 0 n
written_seen r (Err refusal) = done_seen r (number_of refusal) 0

abbrev pub outcome_seen : FileRead → ℕ → ℕ → Seen
outcome_seen r zero n = done_seen r 0 n
outcome_seen r (suc f) n = done_seen r (suc f) 0

unfoldable pub same_seen : Seen → Seen → Bool
same_seen a b =
    a.number == b.number
    && (a.at == b.at
    && (a.wires == b.wires
    && (a.ands == b.ands
    && (a.imuls == b.imuls
    && (a.bmuls == b.bmuls && (a.zeros == b.zeros && (a.linears == b.linears && (a.terms == b.terms && (a.written == b.written && a.length == b.length)))))))))

-- what reading s answers, and what it leaves
abbrev pub read_in : List ℕ → Result FileRead Fault
read_in s = with_room (read_of s) (length s) 8192 3072 4096 6144 1024 1024 1024

abbrev pub held_of : List Entry → Stores
held_of es =
    stores (sets (replicate 8192 0) 0 (terms_laid es)) [] (sets (replicate 3072 0) 0 (list_laid 2 0 es)) (sets (replicate 4096 0) 0 (list_laid 3 0 es))
    (sets (replicate 6144 0) 0 (list_laid 4 0 es)) (sets (replicate 1024 0) 0 (list_laid 5 0 es)) (sets (replicate 1024 0) 0 (destinations_laid es))
    (sets (replicate 1024 0) 0 (list_laid LINEAR 0 es))

abbrev pub pass_by : List Entry → Result FileRead Fault → ℕ → Seen
pass_by es (Err f) room = refused_seen f.number f.at
pass_by es (Ok r) room = outcome_seen r (write_fault r.sizes (held_of es) room) (file_size (entries_of (system_of r.sizes (held_of es))))

abbrev pub bytes_after : List Entry → Result FileRead Fault → List ℕ → List ℕ
bytes_after es (Err f) out = out
bytes_after es (Ok r) out = sets out 0 (bytes_by (write_fault r.sizes (held_of es) (length out)) (file_of (system_of r.sizes (held_of es))))

pub record Passed (s out : List ℕ) (r : Seen) (out' : List ℕ) : Type 0 where
  pub seen_is : r ≡ pass_by (entries_read s (read_in s)) (read_in s) (length out)
  pub bytes_are : out' ≡ bytes_after (entries_read s (read_in s)) (read_in s) out

-- ---- vectors

abbrev pub pass_seen : List ℕ → ℕ → Seen
pass_seen s room = pass_by (entries_read s (read_in s)) (read_in s) room

abbrev pub pass_bytes : List ℕ → List ℕ → List ℕ
pass_bytes s out = bytes_after (entries_read s (read_in s)) (read_in s) out

unfoldable pub expected_at : List ℕ → ℕ → ℕ → Option Seen
expected_at s at n =
    cond (nat_le at (length s))
    (Some
    (record {
      number = number_at s at;
      at = number_at s (at + 4);
      wires = number_at s (at + 8);
      ands = number_at s (at + 12);
      imuls = number_at s (at + 16);
      bmuls = number_at s (at + 20);
      zeros = number_at s (at + 24);
      linears = number_at s (at + 28);
      terms = number_at s (at + 32);
      written = 0;
      length = cond (number_at s at == 0) n 0;
    }))
    None

abbrev pub meets_asked : Seen → Option Seen → Bool
meets_asked seen None = false
meets_asked seen (Some asked) = same_seen seen asked

pub record State : Type 0 where
  pub one : List ℕ
  pub two : List ℕ
  pub tally : Tally

abbrev pub state_of : List ℕ → List ℕ → Tally → State
state_of one two t = record { one = one; two = two; tally = t }

unfoldable pub compared_tally : Seen → List ℕ → List ℕ → Tally → Tally
compared_tally seen file two t =
    with_bytes (counted (counted t (same_seen seen (pass_seen file (length two)))) (same_from file (take (length file) (pass_bytes file two)) 0)) file

unfoldable pub again_of : Seen → State → State
again_of seen s =
    cond (nat_le seen.length (length s.one) && nat_le seen.length (length s.two))
    (state_of s.one (pass_bytes (take seen.length s.one) s.two) (compared_tally seen (take seen.length s.one) s.two s.tally))
    (state_of s.one s.two (counted s.tally false))

abbrev pub told_of : Tally → Seen → Option Seen → Tally
told_of t seen asked = counted (with_number (with_number t seen.number) seen.at) (meets_asked seen asked)

-- the file, and what it has to be answered with
unfoldable pub file_of_vector : List ℕ → Option Seen → State → State
file_of_vector file asked s =
    cond ((pass_seen file (length s.one)).number == 0)
    (again_of (pass_seen file (length s.one)) (state_of (pass_bytes file s.one) s.two (told_of s.tally (pass_seen file (length s.one)) asked)))
    (state_of (pass_bytes file s.one) s.two (told_of s.tally (pass_seen file (length s.one)) asked))

unfoldable pub vector_of : List ℕ → ℕ → ℕ → State → State
vector_of input at n s =
    cond (nat_le (at + n) (length input)) (file_of_vector (take n (drop at input)) (expected_at input (at + n) n) s) (state_of s.one s.two (counted s.tally false))

unfoldable pub vectors_of : List ℕ → ℕ → ℕ → State → State
vectors_of input zero at s = s
vectors_of input (suc k) at s =
    cond (nat_le (length input) at) (state_of s.one s.two (counted s.tally false))
    (vectors_of input k (at + 4 + number_at input at + 36) (vector_of input (at + 4) (number_at input at) s))

-- ---- systems that are made

unfoldable pub term_made : ℕ → ℕ → ℕ
term_made wires i = cond (wires == 0) 0 (term_number (record { wire = i % wires % 65536; inner = i % 256; outer = i / 7 % 256 }))

unfoldable pub operand_made : ℕ → ℕ → ℕ
operand_made len i = operand_number (record { start = i % 97; len = len % 65536; new = false })

unfoldable pub wire_made : ℕ → ℕ → ℕ
wire_made wires i = cond (wires == 0) 0 (i % wires % 65536)

unfoldable pub made_from : (ℕ → ℕ) → ℕ → ℕ → List ℕ
made_from f i zero = []
made_from f i (suc n) = f i ∷ made_from f (i + 1) n

abbrev pub made_stores : Case → Stores
made_stores c =
    stores (made_from (term_made c.sizes.wires) 0 11264) [] (made_from (operand_made c.row) 0 3075) (made_from (operand_made c.row) 0 4100)
    (made_from (operand_made c.row) 0 6150) (made_from (operand_made c.row) 0 1025) (made_from (wire_made c.sizes.wires) 0 1025)
    (made_from (operand_made c.side) 0 1025)

abbrev pub case_of : Sizes → ℕ → ℕ → Outcome → Case
case_of z row side outcome = record { sizes = z; row = row; side = side; outcome = outcome }

abbrev pub sizes_from : ℕ → ℕ → ℕ → ℕ → ℕ → ℕ → Sizes
sizes_from w a i b o l = record { wires = w; ands = a; imuls = i; bmuls = b; zeros = o; linears = l }

unfoldable pub cut_from : List ℕ → ℕ → ℕ → ℕ → ℕ
cut_from file end zero at = at
cut_from file end (suc k) at = cond (nat_lt end (at + 3)) at (cond (nat_lt end (field_end file at)) at (cut_from file end k (field_end file at)))

unfoldable pub cut_at : List ℕ → ℕ → ℕ
cut_at file end = cond (nat_le end (length file)) (cut_from file end end 0) 0
