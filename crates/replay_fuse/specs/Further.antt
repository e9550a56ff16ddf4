-- Further calls on the system of a vector.
--
--   wrong_slots i        slots that are refused
--   refusal_told n       a refusal of number n is what has to be answered
--   wires_in a           the wires of a file that was read
--   SlotsChecked        a call with each of the first so many wrong slots
--   FlagsChecked        as many flags as wires, and one less
--   NewChecked          a result store of as many terms as are written, and one less
--   FurtherChecked      slots always; the stores where no refusal is told
--
-- Assumes nothing.
use Rattle.std.specs.Prelude.{◌≡◌, ℕ, ◌+◌, ◌-◌, ◌<◌, false, List, [], ◌∷◌, ◌≢◌, slice_index_or, Result, Ok, Err}
use Rattle.house_file.specs.Reading.{Fault, read_of}
use Rattle.house_file.specs.declared.FileRead.{FileRead}
use Rattle.commit_set.specs.Answer.{SLOTS, ROOM}
use Rattle.replay_fuse.specs.declared.judge.Told.{Told}
use Rattle.replay_fuse.specs.declared.judge.Seen.{Seen}
use Rattle.replay_fuse.specs.declared.tally.Tally.{Tally}
use Rattle.replay_fuse.specs.Attempts.{Attempt}
use Rattle.replay_fuse.specs.Tallies.{check_counted}

abbrev pub wrong_slots : ℕ → ℕ
wrong_slots i = slice_index_or (0 ∷ 3 ∷ 4294967297 ∷ []) i 1099511627776

abbrev pub refusal_told : ℕ → Told
refusal_told n = record { refusal = n; gone = 0; stranded = 0; committed = 0; written = 0; kept = 0 }

abbrev pub wires_in : Result FileRead Fault → ℕ
wires_in (Err _) = 0
wires_in (Ok f) = f.sizes.wires

pub data SlotsChecked (file : List ℕ) (room : ℕ) (t : Tally) : ℕ → Tally → Type 0 where
  none : SlotsChecked file room t 0 t
  more : {n : ℕ} {u : Tally} {seen : Seen}
      → SlotsChecked file room t n u
      → Attempt file (wrong_slots n) room 4096 (refusal_told SLOTS) [] 0 seen
      → SlotsChecked file room t (n + 1) (check_counted u seen.right)

module _ (file : List ℕ) (slots room : ℕ) (told : Told) (result : List ℕ) where
  pub data FlagsChecked (wires : ℕ) (t : Tally) : Tally → Type 0 where
    nothing : wires ≡ 0 → FlagsChecked wires t (check_counted t false)
    both : {enough short : Seen}
        → 0 < wires
        → Attempt file slots room wires told result 0 enough
        → Attempt file slots room (wires - 1) (refusal_told ROOM) [] 0 short
        → FlagsChecked wires t (check_counted (check_counted t enough.right) short.right)

module _ (file : List ℕ) (slots : ℕ) (told : Told) (result : List ℕ) where
  pub data NewChecked (t : Tally) : Tally → Type 0 where
    empty : {enough : Seen}
        → told.written ≡ 0
        → Attempt file slots told.written 4096 told result 0 enough
        → NewChecked t (check_counted t enough.right)
    exact : {enough short : Seen}
        → 0 < told.written
        → Attempt file slots told.written 4096 told result 0 enough
        → Attempt file slots (told.written - 1) 4096 (refusal_told ROOM) [] 0 short
        → NewChecked t (check_counted (check_counted t enough.right) short.right)

pub data FurtherChecked (file : List ℕ) (slots room : ℕ) (told : Told) (result : List ℕ) (t : Tally) : Tally → Type 0 where
  refusal : {u : Tally} → (told.refusal ≢ 0) → SlotsChecked file room t 4 u → FurtherChecked file slots room told result t u
  accepted : {u v w : Tally}
      → told.refusal ≡ 0
      → SlotsChecked file room t 4 u
      → FlagsChecked file slots room told result (wires_in (read_of file)) u v
      → NewChecked file slots told result v w
      → FurtherChecked file slots room told result t w
