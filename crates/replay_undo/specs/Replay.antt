-- The replay of undoing: what the bytes of the input come to.
--
--   vector_at b at       the vector that begins at `at`: where its house file stands, its slots, and the seed of its words
--   VectorReplayed      one vector under the first so many kinds of assignments
--   Replayed b at t     t is counted of the vectors before `at`
--
-- Assumes nothing.
use Rattle.std.specs.Prelude.{◌≡◌, ℕ, ◌+◌, ◌<◌, ◌≤◌, List, length}
use Rattle.replay_undo.specs.declared.Vector.{Vector}
use Rattle.replay_undo.specs.declared.tally.Tally.{Tally}
use Rattle.replaying.specs.Places.{number_at, part_of}
use Rattle.replay_undo.specs.Tallies.{nothing_counted}
use Rattle.replay_undo.specs.Attempts.{Attempt}

abbrev pub answer_at : List ℕ → ℕ → ℕ
answer_at b at = at + 4 + number_at b at

unfoldable pub vector_at : List ℕ → ℕ → Vector
vector_at b at =
    record { file = at + 4; answer = answer_at b at; slots = number_at b (answer_at b at); seed = at; end = answer_at b at + 4 }

pub data VectorReplayed (file : List ℕ) (slots seed : ℕ) (t : Tally) : ℕ → Tally → Type 0 where
  none : VectorReplayed file slots seed t 0 t
  more : {kind : ℕ} {u v : Tally}
      → VectorReplayed file slots seed t kind u
      → Attempt file slots seed kind u v
      → VectorReplayed file slots seed t (kind + 1) v

-- the first vector stands behind the number of vectors, and each of the others behind the one before
pub data Replayed (b : List ℕ) : ℕ → Tally → Type 0 where
  begun : Replayed b 4 nothing_counted
  next : {at : ℕ} {v : Vector} {t u : Tally}
      → at < length b
      → v ≡ vector_at b at
      → Replayed b at t
      → VectorReplayed (part_of b v.file v.answer) v.slots v.seed t 4 u
      → Replayed b v.end u

pub record ReplayedAll (b : List ℕ) (t : Tally) : Type 0 where
  pub end : ℕ
  pub past : length b ≤ end
  pub replayed : Replayed b end t
