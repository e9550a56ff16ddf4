-- An assignment, filled back over a file's system, whose definitions are records.
--
--   word_at i            the word of wire i
--   made_words           the first n words made so
--   rows_of n            n, or the limit of rows and definitions where n is more
--   definitions_at z     where the values of the definitions begin
--   holds_of             1 where the definition's wire is not committed, and its word is the value
--   holding_of           how many of the first n definitions hold so
--   counted_of           how many do after the two answers; none where one is a refusal
--   FilledIn            filled back and evaluated, the words and the values in lent stores
--   WithWords           as many words as wires, and room for all values, as they are made
--   FromRead            after the file was read
--   Filled              from the bytes on
--
-- What `fill_back` leaves is said by `FillsIs`, and what `evaluate` leaves by `EvaluateIs`.
--
-- Assumes nothing.
use Rattle.std.specs.Prelude.{◌≡◌, ℕ, ◌+◌, ◌*◌, ◌%◌, min, cond, List, [], length, take, replicate, ◌==◌, slice_index, slice_index_or, slice_set, Result, Ok, Err}
use Rattle.refusal.specs.declared.Refusal.{Refusal}
use Rattle.lower.specs.declared.Sizes.{Sizes}
use Rattle.lower.specs.Stores.{Stores}
use Rattle.house_file.specs.declared.FileRead.{FileRead}
use Rattle.house_file.specs.declared.FileFault.{FileFault}
use Rattle.house_read.specs.Answer.{ReadIs}
use Rattle.fill_back.specs.Filling.{FillsIs}
use Rattle.evaluate.specs.Evaluation.{EvaluateIs}
use Rattle.records.specs.declared.Definition.{Definition}
use Rattle.records.specs.Records.{dsts_of, rhss_of, stores_by}
use Rattle.replay_records.specs.declared.lend.Loaded.{Loaded}
use Rattle.replaying.specs.Places.{UNTOUCHED}
use Rattle.replay_records.specs.Places.{turns, same_of, blank_defs}

-- ---- the words

abbrev pub stirred : ℕ → ℕ
stirred x = (x % 1000000007 * 48271 + 11) % 1000000007

unfoldable pub word_at : ℕ → ℕ
word_at i = stirred (stirred (stirred (stirred i))) * 17179869184 + stirred (stirred (stirred i)) * 16 + stirred (stirred i) % 16

abbrev pub made_words : ℕ → List ℕ → List ℕ
made_words n words = turns (List ℕ) (λ i l. slice_set l i (word_at i)) n words

-- ---- the definitions that hold

abbrev pub rows_of : ℕ → ℕ
rows_of n = min n 1024

abbrev pub definitions_at : Sizes → ℕ
definitions_at z = 3 * rows_of z.ands + 4 * rows_of z.imuls + 6 * rows_of z.bmuls + rows_of z.zeros

unfoldable pub holds_of : Definition → ℕ → List ℕ → List ℕ → ℕ
holds_of d value flags words = cond (slice_index flags d.dst == 0) (same_of (slice_index words d.dst) value) 0

abbrev pub holding_of : List Definition → ℕ → List ℕ → ℕ → List ℕ → List ℕ → ℕ
holding_of ds n values at flags words =
    turns ℕ (λ i c. c + holds_of (slice_index_or ds i (record { rhs = 0; dst = 0 })) (slice_index values (at + i)) flags words) n 0

unfoldable pub counted_of : ℕ → Result ℕ Refusal → List Definition → Sizes → List ℕ → List ℕ → List ℕ → ℕ
counted_of filled (Err _) ds z values flags words = 0
counted_of filled (Ok _) ds z values flags words = cond (filled == 0) (holding_of ds (rows_of z.linears) values (definitions_at z) flags words) 0

-- ---- the calls

pub record FilledIn (z : Sizes) (s : Stores) (ds : List Definition) (flags words values words' values' : List ℕ) (n : ℕ) : Type 0 where
  pub number : ℕ
  pub answer : Result ℕ Refusal
  pub fills : FillsIs z s flags (made_words (length words) words) words' number
  pub evaluates : EvaluateIs z s words' values answer values'
  pub counts : n ≡ counted_of number answer ds z values' flags words'

pub record WithWords (z : Sizes) (s : Stores) (ds : List Definition) (flags : List ℕ) (n : ℕ) : Type 0 where
  pub words : List ℕ
  pub values : List ℕ
  pub filled : FilledIn z s ds flags (take (min z.wires 4096) (replicate 4096 0)) (replicate 7168 UNTOUCHED) words values n

pub data FromRead (s : Stores) (ds : List Definition) (flags : List ℕ) : Result FileRead FileFault → ℕ → Type 0 where
  unread : {f : FileFault} → FromRead s ds flags (Err f) 0
  read : {a : FileRead} {n : ℕ} → WithWords a.sizes s ds flags n → FromRead s ds flags (Ok a) n

-- a file that is read into stores, and an array, that are made for it
abbrev pub ReadIn : List ℕ → Loaded → List ℕ → List ℕ → List ℕ → List ℕ → List ℕ → Type 0
ReadIn file loaded terms ands imuls bmuls zeros =
    ReadIs file (replicate 8192 UNTOUCHED) (replicate 3072 UNTOUCHED) (replicate 4096 UNTOUCHED) (replicate 6144 UNTOUCHED) (replicate 1024 UNTOUCHED)
    (dsts_of blank_defs) (rhss_of blank_defs) loaded.read terms ands imuls bmuls zeros (dsts_of loaded.defs) (rhss_of loaded.defs)

pub record Filled (file flags : List ℕ) (n : ℕ) : Type 0 where
  pub loaded : Loaded
  pub terms : List ℕ
  pub ands : List ℕ
  pub imuls : List ℕ
  pub bmuls : List ℕ
  pub zeros : List ℕ
  pub reads : ReadIn file loaded terms ands imuls bmuls zeros
  pub goes : FromRead (stores_by terms [] ands imuls bmuls zeros loaded.defs) loaded.defs flags loaded.read n
