-- What one pass answered and left, against what was told.
--
--   counts_right         no refusal was told, and the five counts are the told ones
--   flags_right          each flag is 0 or 1, and as many are 1 as are committed
--   file_of              the file that was written
--   refusal_right        the told number, and all as it was: what is written afterwards is the file that was read
--   done_right           the told counts and file, flags and the result store's rest as they have to be, all uncommitted definitions hold
--   DoneJudged, Judged  a patched system; the answer of fusing, by its case
--
-- Assumes nothing.
use Rattle.std.specs.Prelude.{◌≡◌, ℕ, ◌+◌, ◌-◌, Bool, true, ◌&&◌, List, [], length, ◌==◌, Result, Ok, Err}
use Rattle.refusal.specs.declared.Refusal.{Refusal}
use Rattle.refusal.specs.Refusals.{number_of}
use Rattle.fusion.specs.declared.Counts.{Counts}
use Rattle.replay_records.specs.declared.judge.Told.{Told}
use Rattle.replay_records.specs.declared.judge.Seen.{Seen}
use Rattle.replaying.specs.Places.{part_of, counted, untouched_from, same_from, digest_of}
use Rattle.replay_records.specs.Words.{rows_of, Filled}

unfoldable pub counts_right : Counts → Told → Bool
counts_right k told =
    (told.refusal == 0)
    && (k.gone == told.counts.gone
    && (k.stranded == told.counts.stranded
    && (k.committed == told.counts.committed && (k.written == told.counts.written && k.kept == told.counts.kept))))

unfoldable pub flags_right : List ℕ → Counts → Bool
flags_right flags k =
    (counted 1 flags == k.committed) && counted 0 flags == length flags - counted 1 flags

abbrev pub holding_right : ℕ → Counts → Bool
holding_right n k = n == rows_of k.gone + rows_of k.stranded

abbrev pub all_of : Bool → Bool → Bool → Bool → Bool
all_of a b c d = a && (b && (c && d))

abbrev pub file_of : Result ℕ Refusal → List ℕ → List ℕ
file_of (Ok n) out = part_of out 0 n
file_of (Err _) out = []

abbrev pub refusal_seen : Bool → ℕ → Seen
refusal_seen right digest = record { right = right; gone = 0; stranded = 0; committed = 0; written = 0; holding = 0; digest = digest }

abbrev pub done_seen : Counts → Bool → ℕ → ℕ → Seen
done_seen k right holding digest =
    record {
      right = right;
      gone = k.gone;
      stranded = k.stranded;
      committed = k.committed;
      written = k.written;
      holding = holding;
      digest = digest;
    }

module _ (told : Told) (file new flags written : List ℕ) where
  abbrev pub refusal_right : ℕ → Bool
  refusal_right number = all_of (number == told.refusal) (untouched_from new 0) (untouched_from flags 0) (same_from written file 0)

  abbrev pub done_right : List ℕ → Counts → ℕ → Bool
  done_right result k n =
      all_of (all_of (counts_right k told) (untouched_from new k.written) (flags_right flags k) (same_from written result 0)) (holding_right n k) true true

  pub record DoneJudged (result : List ℕ) (digest : ℕ) (k : Counts) (r : Seen) : Type 0 where
    pub holding : ℕ
    pub filled : Filled file flags holding
    pub seen : r ≡ done_seen k (done_right result k holding) holding (digest_of written digest)

  pub data Judged (result : List ℕ) (digest : ℕ) : Result Counts Refusal → Seen → Type 0 where
    refusal : {f : Refusal} {r : Seen} → r ≡ refusal_seen (refusal_right (number_of f)) digest → Judged result digest (Err f) r
    done : {k : Counts} {r : Seen} → DoneJudged result digest k r → Judged result digest (Ok k) r
