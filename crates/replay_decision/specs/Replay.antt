-- The replay of decisions: what the bytes of decision.bin come to.
--
--   vector_at b at       the vector that begins at `at`: where its house file and its flags stand, its slots and its refusal
--   turns f n s         n turns from s on, the i-th of them by f i
--   flags_of             the flags of wires: 1 where the wire is the destination of a definition that commits
--   judged              what was answered and left, against the vector, and in the digest
--   Answers             whether one call of `decide` is answered as it has to be
--   SlotsChecked, RoomChecked, FurtherChecked     the further calls on a system
--   SystemReplayed, ReadReplayed, VectorReplayed  one vector: decided; read; from its bytes on
--   Replayed b at t     t is counted of the vectors before `at`
--
-- Which list `decide` leaves and what it answers is said by its contract, `Decides`, and what `read` leaves by `ReadIs`: each of the
-- relations here names what was left.
--
-- Assumes nothing.
use Rattle.std.specs.Prelude.{◌≡◌, ℕ, zero, suc, ◌+◌, ◌-◌, ◌%◌, ◌^◌, ◌<◌, ◌≤◌, Bool, false, cond, ◌&&◌, ◌||◌, List, [], ◌∷◌, length, take, replicate, ◌==◌, ◌≢◌, slice_index, slice_index_or, slice_set, Result, Ok, Err}
use Rattle.lower.specs.declared.Sizes.{Sizes}
use Rattle.lower.specs.Stores.{Stores, stores}
use Rattle.replaying.specs.Places.{number_at, part_of, mixed, UNTOUCHED, untouched_from}
use Rattle.house_file.specs.declared.FileRead.{FileRead}
use Rattle.house_file.specs.declared.FileFault.{FileFault}
use Rattle.house_read.specs.Answer.{ReadIs}
use Rattle.commit_set.specs.Answer.{SLOTS, ROOM, Decides}
use Rattle.replay_decision.specs.declared.Tally.{Tally}
use Rattle.replay_decision.specs.declared.Vector.{Vector}

-- ---- the bytes

abbrev pub answer_at : List ℕ → ℕ → ℕ
answer_at b at = at + 4 + number_at b at

unfoldable pub vector_at : List ℕ → ℕ → Vector
vector_at b at =
    record {
      file = at + 4;
      answer = answer_at b at;
      slots = number_at b (answer_at b at);
      refusal = number_at b (answer_at b at + 4);
      flags = answer_at b at + 12;
      end = answer_at b at + 12 + number_at b (answer_at b at + 8);
    }

-- ---- counting

unfoldable pub turns : (A : Type 0) → (ℕ → A → A) → ℕ → A → A
turns A f zero s = s
turns A f (suc n) s = f n (turns A f n s)

abbrev pub same_of : ℕ → ℕ → ℕ
same_of a b = cond (a == b) 1 0

abbrev pub marked_by : ℕ → ℕ → List ℕ → List ℕ
marked_by decision dst l = cond (decision == 0) (slice_set l dst 1) l

abbrev pub flags_of : List ℕ → List ℕ → ℕ → List ℕ → List ℕ
flags_of decisions dsts n l = turns (List ℕ) (λ i l. marked_by (slice_index decisions i) (slice_index dsts i) l) n l

abbrev pub equal_places : List ℕ → List ℕ → ℕ → ℕ
equal_places a b n = turns ℕ (λ i c. c + same_of (slice_index a i) (slice_index b i)) n 0

abbrev pub count_of : List ℕ → ℕ → ℕ → ℕ
count_of l x n = turns ℕ (λ i c. c + same_of (slice_index l i) x) n 0

abbrev pub digest_of : List ℕ → ℕ → ℕ → ℕ
digest_of l n start = turns ℕ (λ i d. mixed d (slice_index l i)) n start

abbrev pub vector_counted : Tally → Bool → ℕ → ℕ → Tally
vector_counted t right committed digest =
    record {
      right = cond right ((t.right + 1) % 2 ^ 64) t.right;
      wrong = cond right t.wrong ((t.wrong + 1) % 2 ^ 64);
      committed = (t.committed + committed) % 2 ^ 64;
      digest = digest;
      passed = t.passed;
      failed = t.failed;
    }

abbrev pub check_counted : Tally → Bool → Tally
check_counted t right =
    record {
      right = t.right;
      wrong = t.wrong;
      committed = t.committed;
      digest = t.digest;
      passed = cond right ((t.passed + 1) % 2 ^ 64) t.passed;
      failed = cond right t.failed ((t.failed + 1) % 2 ^ 64);
    }

-- ---- one vector's answer

abbrev pub refused_right : ℕ → ℕ → List ℕ → List ℕ → Bool
refused_right answer expected left flags = answer == expected && (length flags == 0 && untouched_from left 0)

abbrev pub decided_right : ℕ → List ℕ → ℕ → List ℕ → List ℕ → ℕ → Bool
decided_right expected left n flags met wires =
    (expected == 0) && (length flags == wires && (equal_places flags met wires == wires && untouched_from left n))

unfoldable pub judged_flags : ℕ → List ℕ → ℕ → List ℕ → List ℕ → ℕ → Tally → Tally
judged_flags expected left n flags met wires t =
    vector_counted t (decided_right expected left n flags met wires) (count_of met 1 wires) (digest_of left n (digest_of met wires t.digest))

unfoldable pub judged : ℕ → ℕ → List ℕ → List ℕ → ℕ → List ℕ → ℕ → Tally → Tally
judged answer expected left dsts n flags wires t =
    cond (answer == 0) (judged_flags expected left n flags (flags_of left dsts n (replicate 4096 0)) wires t)
    (vector_counted t (refused_right answer expected left flags) 0 (mixed t.digest answer))

-- ---- further calls on the same system

abbrev pub wrong_slots : ℕ → ℕ
wrong_slots i = slice_index_or (0 ∷ 3 ∷ 255 ∷ 256 ∷ 257 ∷ 4294967297 ∷ []) i 18446744073709551615

unfoldable pub answered_right : ℕ → ℕ → List ℕ → Bool
answered_right answer expected left = answer == expected && (answer == 0 || untouched_from left 0)

pub record Answers (slots : ℕ) (z : Sizes) (s : Stores) (l : List ℕ) (expected : ℕ) (r : Bool) : Type 0 where
  pub left : List ℕ
  pub answer : ℕ
  pub decides : Decides slots z s l left answer
  pub right : r ≡ answered_right answer expected left

-- with room for so many decisions
abbrev pub AnswersIn : ℕ → Sizes → Stores → ℕ → ℕ → Bool → Type 0
AnswersIn slots z s room expected r = Answers slots z s (take room (replicate 1024 UNTOUCHED)) expected r

pub data SlotsChecked (z : Sizes) (s : Stores) (t : Tally) : ℕ → Tally → Type 0 where
  none : SlotsChecked z s t 0 t
  more : {n : ℕ} {u : Tally} {r : Bool} → SlotsChecked z s t n u → AnswersIn (wrong_slots n) z s 1024 SLOTS r → SlotsChecked z s t (n + 1) (check_counted u r)

pub data RoomChecked (slots : ℕ) (z : Sizes) (s : Stores) (t : Tally) : Tally → Type 0 where
  nothing : z.linears ≡ 0 → RoomChecked slots z s t t
  both : {a b : Bool}
      → 0 < z.linears
      → AnswersIn slots z s (z.linears - 1) ROOM a
      → AnswersIn slots z s z.linears 0 b
      → RoomChecked slots z s t (check_counted (check_counted t a) b)

pub data FurtherChecked (slots answer : ℕ) (z : Sizes) (s : Stores) (t : Tally) : Tally → Type 0 where
  refusal : {u : Tally} → (answer ≢ 0) → SlotsChecked z s t 7 u → FurtherChecked slots answer z s t u
  accepted : {u v : Tally} → answer ≡ 0 → SlotsChecked z s t 7 u → RoomChecked slots z s u v → FurtherChecked slots answer z s t v

-- ---- one vector

pub record SystemReplayed (slots expected : ℕ) (flags : List ℕ) (z : Sizes) (s : Stores) (t r : Tally) : Type 0 where
  pub left : List ℕ
  pub answer : ℕ
  pub decides : Decides slots z s (replicate 1024 UNTOUCHED) left answer
  pub further : FurtherChecked slots answer z s (judged answer expected left s.dsts z.linears flags z.wires t) r

-- a house file that is not read is a wrong vector
pub data ReadReplayed (slots expected : ℕ) (flags : List ℕ) (s : Stores) (t : Tally) : Result FileRead FileFault → Tally → Type 0 where
  unread : {fault : FileFault} → ReadReplayed slots expected flags s t (Err fault) (vector_counted t false 0 t.digest)
  read : {file : FileRead} {r : Tally}
      → SystemReplayed slots expected flags file.sizes s t r
      → ReadReplayed slots expected flags s t (Ok file) r

pub record VectorReplayed (file : List ℕ) (slots expected : ℕ) (flags : List ℕ) (t r : Tally) : Type 0 where
  pub terms : List ℕ
  pub ands : List ℕ
  pub imuls : List ℕ
  pub bmuls : List ℕ
  pub zeros : List ℕ
  pub dsts : List ℕ
  pub rhss : List ℕ
  pub answer : Result FileRead FileFault
  pub reads : ReadIs file (replicate 8192 0) (replicate 3072 0) (replicate 4096 0) (replicate 6144 0) (replicate 1024 0) (replicate 1024 0)
      (replicate 1024 0) answer terms ands imuls bmuls zeros dsts rhss
  pub replays : ReadReplayed slots expected flags (stores terms [] ands imuls bmuls zeros dsts rhss) t answer r

abbrev pub nothing_counted : Tally
nothing_counted = record { right = 0; wrong = 0; committed = 0; digest = 0; passed = 0; failed = 0 }

-- the first vector stands behind the number of vectors, and each of the others behind the one before
pub data Replayed (b : List ℕ) : ℕ → Tally → Type 0 where
  begun : Replayed b 4 nothing_counted
  next : {at : ℕ} {v : Vector} {t u : Tally}
      → at < length b
      → v ≡ vector_at b at
      → Replayed b at t
      → VectorReplayed (part_of b v.file v.answer) v.slots v.refusal (part_of b v.flags v.end) t u
      → Replayed b v.end u

pub record ReplayedAll (b : List ℕ) (t : Tally) : Type 0 where
  pub end : ℕ
  pub past : length b ≤ end
  pub replayed : Replayed b end t
