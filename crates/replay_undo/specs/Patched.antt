-- The system of a house file, read once more and fused: its values under the same words.
--
--   ReadIn              the file read into stores that are made for it
--   PatchedValues       what the evaluator leaves for a patched system, compared with the values before
--   Judged              so where fusing answers with one; a refusal is counted as wrong
--   Patched             what `read` and then `fuse` leave, in stores that are made for them; the flags before and after
--
-- What `read`, `fuse` and `evaluate` leave is said by their contracts: each of the relations here names what was left.
--
-- Assumes nothing.
use Rattle.std.specs.Prelude.{◌≡◌, ℕ, false, List, replicate, Result, Ok, Err}
use Rattle.refusal.specs.declared.Refusal.{Refusal}
use Rattle.lower.specs.declared.Sizes.{Sizes}
use Rattle.lower.specs.Stores.{Stores}
use Rattle.house_file.specs.declared.FileFault.{FileFault}
use Rattle.house_file.specs.declared.FileRead.{FileRead}
use Rattle.house_read.specs.Answer.{ReadIs}
use Rattle.fusion.specs.declared.Counts.{Counts}
use Rattle.fusion.specs.Left.{Lent, lent, output}
use Rattle.fusion.specs.Answer.{told_fused, Fuses}
use Rattle.evaluate.specs.Evaluation.{EvaluateIs}
use Rattle.replay_undo.specs.declared.tally.Tally.{Tally}
use Rattle.replaying.specs.Places.{UNTOUCHED}
use Rattle.replay_undo.specs.Tallies.{answer_counted}
use Rattle.replay_undo.specs.Values.{sizes_after, compared_of}

abbrev pub ReadIn : List ℕ → Result FileRead FileFault → Stores → Type 0
ReadIn file answer s =
    ReadIs file (replicate 8192 UNTOUCHED) (replicate 3072 UNTOUCHED) (replicate 4096 UNTOUCHED) (replicate 6144 UNTOUCHED) (replicate 1024 UNTOUCHED)
    (replicate 1024 UNTOUCHED) (replicate 1024 UNTOUCHED) answer s.old s.ands s.imuls s.bmuls s.zeros s.dsts s.rhss

pub record PatchedValues (z : Sizes) (s : Stores) (words values : List ℕ) (t r : Tally) : Type 0 where
  pub out : List ℕ
  pub answer : Result ℕ Refusal
  pub evaluates : EvaluateIs z s words (replicate 7168 UNTOUCHED) answer out
  pub seen : r ≡ compared_of out values z s.dsts words t

pub data Judged (z : Sizes) (s : Stores) (words values : List ℕ) (t : Tally) : Result Counts Refusal → Tally → Type 0 where
  refusal : {r : Refusal} → Judged z s words values t (Err r) (answer_counted t false)
  done : {k : Counts} {r : Tally} → PatchedValues (sizes_after z k) s words values t r → Judged z s words values t (Ok k) r

abbrev pub lent_with : Stores → List ℕ → List ℕ → Lent
lent_with s new flags = lent s.old new s.ands s.imuls s.bmuls s.zeros s.dsts s.rhss flags

-- before is what was read, after and new what fusing left
pub record Patched (file : List ℕ) (slots : ℕ) (z : Sizes) (words values flags flags' : List ℕ) (t r : Tally) : Type 0 where
  pub before : Stores
  pub after : Stores
  pub new : List ℕ
  pub read : Result FileRead FileFault
  pub answer : Result Counts Refusal
  pub reads : ReadIn file read before
  pub fuses : Fuses slots z (lent_with before (replicate 16384 UNTOUCHED) flags) (lent_with after new flags') (told_fused answer)
  pub judged : Judged z (output (lent_with after new flags')) words values t answer r
