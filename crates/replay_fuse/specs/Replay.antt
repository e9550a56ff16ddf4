-- The replay of fusing: what the bytes of fuse.bin come to.
--
--   vector_at b at       the vector that begins at `at`: where its house file and its result stand, its slots and its room
--   told_at b at to      what it tells: the refusal behind the slots and the room at `at`, the counts from `to` on
--   VectorReplayed      one vector: the call that it asks for, and the further ones
--   Replayed b at t     t is counted of the vectors before `at`
--
-- Assumes nothing.
use Rattle.std.specs.Prelude.{◌≡◌, ℕ, ◌+◌, ◌<◌, ◌≤◌, List, length}
use Rattle.replaying.specs.Places.{number_at, part_of}
use Rattle.replay_fuse.specs.declared.Vector.{Vector}
use Rattle.replay_fuse.specs.declared.judge.Told.{Told}
use Rattle.replay_fuse.specs.declared.judge.Seen.{Seen}
use Rattle.replay_fuse.specs.declared.tally.Tally.{Tally}
use Rattle.replay_fuse.specs.Attempts.{Attempt}
use Rattle.replay_fuse.specs.Tallies.{nothing_counted, vector_counted}
use Rattle.replay_fuse.specs.Further.{FurtherChecked}

-- ---- the bytes

abbrev pub answer_at : List ℕ → ℕ → ℕ
answer_at b at = at + 4 + number_at b at

abbrev pub counts_at : List ℕ → ℕ → ℕ
counts_at b at = answer_at b at + 16 + number_at b (answer_at b at + 12)

unfoldable pub vector_at : List ℕ → ℕ → Vector
vector_at b at =
    record {
      file = at + 4;
      answer = answer_at b at;
      slots = number_at b (answer_at b at);
      room = number_at b (answer_at b at + 4);
      result = answer_at b at + 16;
      counts = counts_at b at;
      end = counts_at b at + 20;
    }

unfoldable pub told_at : List ℕ → ℕ → ℕ → Told
told_at b answer counts =
    record {
      refusal = number_at b (answer + 8);
      gone = number_at b counts;
      stranded = number_at b (counts + 4);
      committed = number_at b (counts + 8);
      written = number_at b (counts + 12);
      kept = number_at b (counts + 16);
    }

-- ---- the vectors

pub record VectorReplayed (file : List ℕ) (slots room : ℕ) (told : Told) (result : List ℕ) (t r : Tally) : Type 0 where
  pub seen : Seen
  pub attempted : Attempt file slots room 4096 told result t.digest seen
  pub further : FurtherChecked file slots room told result (vector_counted t seen) r

-- the first vector stands behind the number of vectors, and each of the others behind the one before
pub data Replayed (b : List ℕ) : ℕ → Tally → Type 0 where
  begun : Replayed b 4 nothing_counted
  next : {at : ℕ} {v : Vector} {t u : Tally}
      → at < length b
      → v ≡ vector_at b at
      → Replayed b at t
      → VectorReplayed (part_of b v.file v.answer) v.slots v.room (told_at b v.answer v.counts) (part_of b v.result v.counts) t u
      → Replayed b v.end u

pub record ReplayedAll (b : List ℕ) (t : Tally) : Type 0 where
  pub end : ℕ
  pub past : length b ≤ end
  pub replayed : Replayed b end t
