-- The line of `fusereport` (01, "Examples to hold").
--
--   MAX_INPUT           "a house file of at most 65,536 bytes"
--   RESULT_TERMS        "a result store of 4,096 terms"
--   line_of              "one line, ended by a newline: `refused N`, or `ok` and nine counts"
--   Answered b o        what the file comes to
--   Reports b line      the line that is printed for the bytes b
--   Reported            what is answered and left where it is put into lent bytes
--
-- Assumes nothing.
use Rattle.std.specs.Prelude.{ℕ, ◌≤◌, ◌<◌, List, length, Result}
use Rattle.refusal.specs.declared.Refusal.{Refusal}
use Rattle.word.specs.Answers as T
use Rattle.word.specs.Answers.{Told, given}
use Rattle.lower.specs.Faults.{FULL}
use Rattle.fusion.specs.Left.{Lent}
use Rattle.text.specs.Text.{refused_text, ok_text, Puts}
use Rattle.report.specs.declared.outcome.FusedSystem.{FusedSystem}
use Rattle.report.specs.declared.outcome.Fault.{Fault}
use Rattle.report.specs.Outcome.{made, Comes, told_outcome}

abbrev pub MAX_INPUT : ℕ
MAX_INPUT = 65536

abbrev pub RESULT_TERMS : ℕ
RESULT_TERMS = 4096

abbrev pub line_of : Told → List ℕ
line_of (T.refused number) = refused_text number
line_of (T.refused_at number at) = refused_text number
line_of (given vs) = ok_text vs

-- "fuses with two slots and a result store of 4,096 terms"
pub record Answered (bytes : List ℕ) (o : Result FusedSystem Fault) : Type 0 where
  pub left : Lent
  pub comes : Comes 2 bytes (made RESULT_TERMS) o left

-- "(longer: `refused 6`)"
pub data Reports (bytes : List ℕ) : List ℕ → Type 0 where
  long : MAX_INPUT < length bytes → Reports bytes (line_of (T.refused FULL))
  answers : {o : Result FusedSystem Fault} → length bytes ≤ MAX_INPUT → Answered bytes o → Reports bytes (line_of (told_outcome o))

pub record Reported (bytes out : List ℕ) (r : Result ℕ Refusal) (out' : List ℕ) : Type 0 where
  pub line : List ℕ
  pub reports : Reports bytes line
  pub puts : Puts line out r out'
