-- What `write` answers and leaves (01, "Numbers given back").
--
--   MAX_WRITTEN_TERMS  "The last two's 6 allows 24,576 terms"
--   wide p             some record of the system is over 65,535 payload bytes
--   wide_fault, room_fault    14, and 12 where so many lent bytes are too few
--   write_fault         "writing 4, 5, 6, 14, 12", with 3 before the terms of an operand that is past the end of its store
--   bytes_by f bs       the bytes that are stored: none on a refusal
--   told_written        number and values of each case; numbered, the same of a fault and values
--   WriteIs            the refusal or the length, number and values of its case, and what the lent bytes are afterwards: the file from
--                      their front on and the rest as it was; on a refusal all as it was
--
--   Narrow p           no record of the system is over 65,535 payload bytes
--   Explains f         what the number f says: 0, 14 and 12, each just when; 3 to 6 as the checks in memory give them
--
-- `sets l i vs` is the list l with vs stored from place i on.
--
-- Assumes nothing.
use Rattle.std.specs.Prelude.{◌≡◌, ◌↔◌, Bool, not, List, [], ◌∷◌, ℕ, zero, suc, ◌≤◌, ◌<◌, leb, length, Result, IfOk}
use Rattle.std.proofs.lemmas.List.Edits.{sets}
use Rattle.refusal.specs.declared.Refusal.{Refusal}
use Rattle.refusal.specs.Refusals.{fault_in}
use Rattle.word.specs.Answers.{Told, given, refused, told_by}
use Rattle.lower.specs.declared.Sizes.{Sizes}
use Rattle.lower.specs.Lists.{All, some_of}
use Rattle.lower.specs.Model.{System}
use Rattle.lower.specs.Stores.{Stores, system_of}
use Rattle.lower.specs.Faults.{or_else, unless, memory_fault}
use Rattle.lower.specs.Explained.{Standing}
use Rattle.house_file.specs.Format.{Entry, entries_of, file_of, payload_size, file_size}
use Rattle.house_file.specs.Reading.{ROOM, WIDE}
use Rattle.house_write.specs.Sizes.{MAX_PAYLOAD, is_wide}

abbrev pub MAX_WRITTEN_TERMS : ℕ
MAX_WRITTEN_TERMS = 24576

-- "a record to write is over 65,535 payload bytes"
unfoldable pub wide : System → Bool
wide p = some_of (λ (e : Entry). is_wide (payload_size e)) (entries_of p)

abbrev pub wide_fault : System → ℕ
wide_fault p = unless (not (wide p)) WIDE

-- "a lent store too short for the whole result"
abbrev pub room_fault : System → ℕ → ℕ
room_fault p room = unless (leb (file_size (entries_of p)) room) ROOM

unfoldable pub write_fault : Sizes → Stores → ℕ → ℕ
write_fault z s room = or_else (memory_fault MAX_WRITTEN_TERMS z s) (or_else (wide_fault (system_of z s)) (room_fault (system_of z s) room))

unfoldable pub bytes_by : ℕ → List ℕ → List ℕ
bytes_by zero bs = bs
bytes_by (suc f) bs = []

abbrev pub told_written : Result ℕ Refusal → Told
told_written = told_by (λ n. n ∷ [])

unfoldable pub numbered : ℕ → List ℕ → Told
numbered zero vs = given vs
numbered (suc f) vs = refused (suc f)

abbrev pub Narrow : System → Type 0
Narrow p = All (λ (e : Entry). payload_size e ≤ MAX_PAYLOAD) (entries_of p)

module _ (z : Sizes) (s : Stores) (room : ℕ) where
  pub record Explains (f : ℕ) : Type 0 where
    pub none : f ≡ 0 ↔ Standing z s MAX_WRITTEN_TERMS × Narrow (system_of z s) × (file_size (entries_of (system_of z s)) ≤ room)
    pub memory : (memory_fault MAX_WRITTEN_TERMS z s ≡ 0 → ⊥) → f ≡ memory_fault MAX_WRITTEN_TERMS z s
    pub wide_is : f ≡ WIDE ↔ Standing z s MAX_WRITTEN_TERMS × (Narrow (system_of z s) → ⊥)
    pub short : f ≡ ROOM ↔ Standing z s MAX_WRITTEN_TERMS × Narrow (system_of z s) × (room < file_size (entries_of (system_of z s)))

pub record WriteIs (z : Sizes) (s : Stores) (out : List ℕ) (r : Result ℕ Refusal) (out' : List ℕ) : Type 0 where
  pub answer : fault_in r ≡ write_fault z s (length out)
  pub length_is : IfOk r (λ n. n ≡ file_size (entries_of (system_of z s)))
  pub tells : told_written r ≡ numbered (write_fault z s (length out)) (file_size (entries_of (system_of z s)) ∷ [])
  pub bytes_are : out' ≡ sets out 0 (bytes_by (write_fault z s (length out)) (file_of (system_of z s)))
