-- What one call of `fuse` answered and left, against what was told.
--
--   lent_by s flags      the stores of a system that is lent, and the flags
--   rows_of n            n, or the limit of rows and definitions where n is more
--   sizes_after z k      the sizes of the patched system
--   starts_after z k     from which place on each store has to be as it was, where the system is patched; no_starts, where it is refused
--   counts_right         no refusal was told, and the five counts are the told ones
--   flags_right          each flag is 0 or 1, and 1 just at the destinations of the committed definitions
--   kept_of              what is lent, against what the file says: the same from each store's place on
--   ReadIn              the file read into stores that are made for it
--   Kept, Wrote         by reading the file once more; by writing what stands in the stores
--   RefusalJudged, DoneJudged, Judged     the answer, by its case
--
-- What `read` leaves is said by `ReadIs`, and what `write` leaves by `WriteIs`: each of the relations here names what was left.
--
-- Assumes nothing.
use Rattle.std.specs.Prelude.{◌≡◌, ℕ, ◌+◌, ◌-◌, ◌*◌, Bool, false, ◌&&◌, List, length, take, replicate, ◌==◌, min, nat_le, Result, Ok, Err}
use Rattle.lower.specs.declared.Sizes.{Sizes}
use Rattle.lower.specs.declared.LentSystem.{LentSystem}
use Rattle.lower.specs.Stores.{Stores}
use Rattle.refusal.specs.declared.Refusal.{Refusal}
use Rattle.refusal.specs.Refusals.{number_of}
use Rattle.house_file.specs.declared.FileRead.{FileRead}
use Rattle.house_file.specs.declared.FileFault.{FileFault}
use Rattle.house_read.specs.Answer.{ReadIs}
use Rattle.house_write.specs.Write.{WriteIs}
use Rattle.fusion.specs.declared.Counts.{Counts}
use Rattle.fusion.specs.Left.{Lent, lent, output}
use Rattle.replay_fuse.specs.declared.judge.Told.{Told}
use Rattle.replay_fuse.specs.declared.judge.Seen.{Seen}
use Rattle.replay_fuse.specs.declared.judge.Starts.{Starts}
use Rattle.replay_fuse.specs.declared.judge.Bytes.{Bytes}
use Rattle.replaying.specs.Places.{part_of, counted, untouched_from, same_from, digest_of, UNTOUCHED}
use Rattle.replay_fuse.specs.Places.{named_from}

abbrev pub lent_by : LentSystem → List ℕ → Lent
lent_by s flags = lent s.stores.old.now s.stores.new.now s.ands.now s.imuls.now s.bmuls.now s.zeros.now s.dsts.now s.rhss.now flags

abbrev pub no_starts : Starts
no_starts = record { new = 0; ands = 0; imuls = 0; bmuls = 0; zeros = 0; linears = 0; flags = 0 }

abbrev pub rows_of : ℕ → ℕ
rows_of n = min n 1024

abbrev pub linears_after : Counts → ℕ
linears_after k = rows_of k.stranded + rows_of k.committed

abbrev pub sizes_after : Sizes → Counts → Sizes
sizes_after z k =
    record { wires = z.wires; ands = z.ands; imuls = z.imuls; bmuls = z.bmuls; zeros = z.zeros; linears = linears_after k }

abbrev pub starts_after : Sizes → Counts → Starts
starts_after z k =
    record {
      new = k.written;
      ands = 3 * rows_of z.ands;
      imuls = 4 * rows_of z.imuls;
      bmuls = 6 * rows_of z.bmuls;
      zeros = z.zeros;
      linears = linears_after k;
      flags = z.wires;
    }

-- ---- counts and flags

unfoldable pub counts_right : Counts → Told → Bool
counts_right k told =
    (told.refusal == 0)
    && (k.gone == told.gone
    && (k.stranded == told.stranded
    && (k.committed == told.committed && (k.written == told.written && k.kept == told.kept))))

unfoldable pub flags_right : List ℕ → ℕ → List ℕ → Counts → Bool
flags_right flags wires dsts k =
    nat_le wires (length flags)
    && (counted 1 (take wires flags) == k.committed
    && (counted 0 (take wires flags) == wires - counted 1 (take wires flags)
    && named_from flags dsts (rows_of k.stranded) (rows_of k.committed) == k.committed))

abbrev pub told_right : Counts → Told → List ℕ → ℕ → List ℕ → Bool
told_right k told flags wires dsts = counts_right k told && flags_right flags wires dsts k

-- ---- what has to be as it was

-- s after, s₀ before
abbrev pub rows_kept : Stores → Stores → Starts → Bool
rows_kept s s₀ from =
    same_from s.ands s₀.ands from.ands
    && (same_from s.imuls s₀.imuls from.imuls
    && (same_from s.bmuls s₀.bmuls from.bmuls && same_from s.zeros s₀.zeros from.zeros))

abbrev pub lists_kept : Stores → Stores → Starts → Bool
lists_kept s s₀ from = same_from s.old s₀.old 0 && (same_from s.dsts s₀.dsts from.linears && same_from s.rhss s₀.rhss from.linears)

abbrev pub made_kept : List ℕ → List ℕ → Starts → Bool
made_kept new flags from = untouched_from new from.new && untouched_from flags from.flags

unfoldable pub kept_of : Lent → Stores → Starts → Bool
kept_of l s from = rows_kept (output l) s from && (lists_kept (output l) s from && made_kept l.new l.flags from)

abbrev pub ReadIn : List ℕ → Result FileRead FileFault → Stores → Type 0
ReadIn file answer s =
    ReadIs file (replicate 8192 UNTOUCHED) (replicate 3072 UNTOUCHED) (replicate 4096 UNTOUCHED) (replicate 6144 UNTOUCHED) (replicate 1024 UNTOUCHED)
    (replicate 1024 UNTOUCHED) (replicate 1024 UNTOUCHED) answer s.old s.ands s.imuls s.bmuls s.zeros s.dsts s.rhss

pub record Kept (file : List ℕ) (l : Lent) (from : Starts) (r : Bool) : Type 0 where
  pub before : Stores
  pub answer : Result FileRead FileFault
  pub reads : ReadIn file answer before
  pub right : r ≡ kept_of l before from

-- ---- the file written

abbrev pub file_seen : List ℕ → List ℕ → ℕ → Bytes
file_seen file result digest = record { right = same_from file result 0; digest = digest_of file digest }

abbrev pub bytes_seen : Result ℕ Refusal → List ℕ → List ℕ → ℕ → Bytes
bytes_seen (Ok n) out result digest = file_seen (part_of out 0 n) result digest
bytes_seen (Err _) out result digest = record { right = false; digest = digest }

pub record Wrote (z : Sizes) (s : Stores) (result : List ℕ) (digest : ℕ) (r : Bytes) : Type 0 where
  pub out : List ℕ
  pub answer : Result ℕ Refusal
  pub writes : WriteIs z s (replicate 65536 0) answer out
  pub seen : r ≡ bytes_seen answer out result digest

-- ---- the answer

abbrev pub refusal_seen : Bool → ℕ → Seen
refusal_seen right digest = record { right = right; gone = 0; stranded = 0; committed = 0; written = 0; digest = digest }

abbrev pub done_seen : Counts → Bool → Bool → Bytes → Seen
done_seen k told kept bytes =
    record {
      right = told && (kept && bytes.right);
      gone = k.gone;
      stranded = k.stranded;
      committed = k.committed;
      written = k.written;
      digest = bytes.digest;
    }

pub record RefusalJudged (file : List ℕ) (told : Told) (l : Lent) (digest number : ℕ) (r : Seen) : Type 0 where
  pub same : Bool
  pub kept : Kept file l no_starts same
  pub seen : r ≡ refusal_seen (number == told.refusal && same) digest

pub record DoneJudged (file : List ℕ) (told : Told) (l : Lent) (z : Sizes) (result : List ℕ) (digest : ℕ) (k : Counts) (r : Seen) : Type 0 where
  pub same : Bool
  pub bytes : Bytes
  pub kept : Kept file l (starts_after z k) same
  pub wrote : Wrote (sizes_after z k) (output l) result digest bytes
  pub seen : r ≡ done_seen k (told_right k told l.flags z.wires l.dsts) same bytes

pub data Judged (file : List ℕ) (told : Told) (l : Lent) (z : Sizes) (result : List ℕ) (digest : ℕ) : Result Counts Refusal → Seen → Type 0 where
  refusal : {why : Refusal} {r : Seen} → RefusalJudged file told l digest (number_of why) r → Judged file told l z result digest (Err why) r
  done : {k : Counts} {r : Seen} → DoneJudged file told l z result digest k r → Judged file told l z result digest (Ok k) r
