-- A house file fused to a house file.
--
--   MAX_FILE            the most bytes that are looked at: no longer file is within the limits of 6
--   MAX_RESULT          "over 16,384 terms in the result store"
--   after z k           the sizes afterwards, by the counts that are told
--   told_file            number and values of each case
--   fault_text f        the line that says why a file is not fused: the number, with the offset of the field where the reader refuses
--   WritesFile          of a fused system: the answer, and the lent bytes and flags afterwards
--   WritesOut           the same of an outcome
--   FusesBytes          the same from the bytes on
--   FusesFile           the answer, and what the lent bytes and flags are afterwards: the fused file and the committed wires from their fronts
--                       on; on a refusal both are as they were
--
-- Assumes nothing.
use Rattle.std.specs.Prelude.{ℕ, ◌-◌, ◌≤◌, ◌<◌, List, [], ◌∷◌, length, take, Result, Ok, Err}
use Rattle.std.proofs.lemmas.List.Edits.{sets}
use Rattle.refusal.specs.declared.Refusal.{Refusal}
use Rattle.refusal.specs.declared.Refusal.TheVariants.{Full, Room}
use Rattle.refusal.specs.Refusals.{number_of}
use Rattle.word.specs.Answers as T
use Rattle.word.specs.Answers.{Told, given}
use Rattle.lower.specs.declared.Sizes.{Sizes}
use Rattle.house_write.specs.Write.{WriteIs}
use Rattle.fusion.specs.declared.Counts.{Counts}
use Rattle.fusion.specs.Left.{Lent, output}
use Rattle.text.specs.Text.{refused_text, refused_at_text}
use Rattle.report.specs.declared.outcome.FusedSystem.{FusedSystem}
use Rattle.report.specs.declared.outcome.Fault.{Fault}
use Rattle.report.specs.declared.outcome.Fault.TheVariants.{Unread, Refused}
use Rattle.report.specs.declared.FusedFile.{FusedFile}
use Rattle.report.specs.Outcome.{made, fault_number, Comes}

abbrev pub MAX_FILE : ℕ
MAX_FILE = 262144

abbrev pub MAX_RESULT : ℕ
MAX_RESULT = 16384

-- "the other four lists keep their lengths"
unfoldable pub after : Sizes → Counts → Sizes
after z k =
    record {
      wires = z.wires;
      ands = z.ands;
      imuls = z.imuls;
      bmuls = z.bmuls;
      zeros = z.zeros;
      linears = z.linears - k.gone;
    }

abbrev pub told_file : Result FusedFile Fault → Told
told_file (Ok f) = given (f.length ∷ f.wires ∷ [])
told_file (Err f) = T.refused (fault_number f)

abbrev pub fault_text : Fault → List ℕ
fault_text (Unread f) = refused_at_text (number_of f.refusal) f.at
fault_text (Refused r) = refused_text (number_of r)

-- z and l are what fusing left; the flags are looked at first
pub data WritesFile (z : Sizes) (l : Lent) (out flags : List ℕ) : Result FusedFile Fault → List ℕ → List ℕ → Type 0 where
  short : length flags < z.wires → WritesFile z l out flags (Err (Refused Room)) out flags
  unwritten : {r : Refusal} → z.wires ≤ length flags → WriteIs z (output l) out (Err r) out → WritesFile z l out flags (Err (Refused r)) out flags
  written : {n : ℕ} {out' : List ℕ} → z.wires ≤ length flags → WriteIs z (output l) out (Ok n) out'
      → WritesFile z l out flags (Ok (record { length = n; wires = z.wires })) out' (sets flags 0 (take z.wires l.flags))

pub data WritesOut (l : Lent) (out flags : List ℕ) : Result FusedSystem Fault → Result FusedFile Fault → List ℕ → List ℕ → Type 0 where
  refused : {f : Fault} → WritesOut l out flags (Err f) (Err f) out flags
  fused : {s : FusedSystem} {r : Result FusedFile Fault} {out' flags' : List ℕ} → WritesFile (after s.sizes s.counts) l out flags r out' flags'
      → WritesOut l out flags (Ok s) r out' flags'

pub record FusesBytes (slots : ℕ) (bytes out flags : List ℕ) (r : Result FusedFile Fault) (out' flags' : List ℕ) : Type 0 where
  pub outcome : Result FusedSystem Fault
  pub left : Lent
  pub comes : Comes slots bytes (made MAX_RESULT) outcome left
  pub writes : WritesOut left out flags outcome r out' flags'

pub data FusesFile (slots : ℕ) (bytes out flags : List ℕ) : Result FusedFile Fault → List ℕ → List ℕ → Type 0 where
  long : MAX_FILE < length bytes → FusesFile slots bytes out flags (Err (Refused Full)) out flags
  looked : {r : Result FusedFile Fault} {out' flags' : List ℕ} → length bytes ≤ MAX_FILE → FusesBytes slots bytes out flags r out' flags'
      → FusesFile slots bytes out flags r out' flags'
