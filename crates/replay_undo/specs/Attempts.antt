-- The system of a house file under one assignment, in stores that are made for it.
--
--   WithFlags           a copy is fused, which leaves the flags, as many as words; then it is filled back over the originals
--   WithValues          with the values of the originals, whose definitions are counted
--   WithWords           as many words as wires, made and filled back with no wire committed
--   FromRead            after the file was read; one that is not read is counted as wrong
--   Attempt             from the bytes on
--
-- Assumes nothing.
use Rattle.std.specs.Prelude.{ℕ, false, min, List, length, take, replicate, Result, Ok, Err}
use Rattle.refusal.specs.declared.Refusal.{Refusal}
use Rattle.refusal.specs.Refusals.{fault_in}
use Rattle.lower.specs.declared.Sizes.{Sizes}
use Rattle.lower.specs.Stores.{Stores}
use Rattle.house_file.specs.declared.FileFault.{FileFault}
use Rattle.house_file.specs.declared.FileRead.{FileRead}
use Rattle.fill_back.specs.Filling.{FillsIs}
use Rattle.evaluate.specs.Evaluation.{EvaluateIs}
use Rattle.replay_undo.specs.declared.tally.Tally.{Tally}
use Rattle.replay_undo.specs.Tallies.{answer_counted}
use Rattle.replay_undo.specs.Words.{made_words}
use Rattle.replay_undo.specs.Values.{definitions_seen}
use Rattle.replay_undo.specs.Patched.{ReadIn, Patched}
use Rattle.replay_undo.specs.Undone.{blank, Undo, Evaluations}

module _ (file : List ℕ) (slots : ℕ) where
  module _ (z : Sizes) (s : Stores) where
    pub record WithFlags (words values : List ℕ) (t r : Tally) : Type 0 where
      pub flags : List ℕ
      pub fused : Tally
      pub filled : Tally
      pub fuses : Patched file slots z words values (take (min (length words) 4096) (replicate 4096 7)) flags t fused
      pub undoes : Undo z s flags words fused filled
      pub evaluates : Evaluations z s words values filled r

    pub record WithValues (words : List ℕ) (t r : Tally) : Type 0 where
      pub values : List ℕ
      pub answer : Result ℕ Refusal
      pub evaluates : EvaluateIs z s words blank answer values
      pub goes : WithFlags words values (definitions_seen s.dsts values z words t) r

  module _ (seed kind : ℕ) where
    abbrev pub zeros_of : Sizes → List ℕ
    zeros_of z = take (min z.wires 4096) (replicate 4096 0)

    pub record WithWords (z : Sizes) (s : Stores) (t r : Tally) : Type 0 where
      pub words : List ℕ
      pub answer : Result (Unit {0}) Refusal
      pub fills : FillsIs z s (zeros_of z) (made_words kind seed (length (zeros_of z)) (zeros_of z)) words (fault_in answer)
      pub goes : WithValues z s words t r

    pub data FromRead (s : Stores) (t : Tally) : Result FileRead FileFault → Tally → Type 0 where
      unread : {f : FileFault} → FromRead s t (Err f) (answer_counted t false)
      read : {x : FileRead} {r : Tally} → WithWords x.sizes s t r → FromRead s t (Ok x) r

    pub record Attempt (t r : Tally) : Type 0 where
      pub before : Stores
      pub answer : Result FileRead FileFault
      pub reads : ReadIn file answer before
      pub goes : FromRead before t answer r
