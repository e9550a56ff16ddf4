-- What an exported function gives back (01, "Numbers given back"): a number, and values in a lent slice.
--
--   sizes              the sizes of a system, each handed in by itself
--   composed_at         what `compose` answers of two shifts by number: 4 where a number is no valid shift's; compose_told, number and values
--   pushed_at           what `push_inner` answers of three; push_told, number and values
--   Reads, FusesTo, Writes, Evaluates   what each function gives and leaves: an answer as the function below it gives one, and the number
--                      and values of that answer, by `Gives` and `GivesRead` of `tell`. Filling back gives a number only: `FillsIs` of its
--                      crate says which.
--
-- Assumes nothing.
use Rattle.std.specs.Prelude.{ℕ, cond, ◌&&◌, List, Result, Ok, Err}
use Rattle.refusal.specs.declared.Refusal.{Refusal}
use Rattle.refusal.specs.declared.Refusal.TheVariants as R
use Rattle.word.specs.Answers.{Told, checked}
use Rattle.shift.specs.Shifts.{valid_number, shift_at}
use Rattle.shift.specs.Compose.{compose_valid}
use Rattle.shift.specs.Answers as S
use Rattle.shift.specs.declared.Composition.{Composition}
use Rattle.operand.specs.Push as O
use Rattle.operand.specs.Push.{push_valid}
use Rattle.operand.specs.declared.PushInner.{PushInner}
use Rattle.lower.specs.declared.Sizes.{Sizes}
use Rattle.lower.specs.Stores.{Stores}
use Rattle.house_file.specs.declared.FileRead.{FileRead}
use Rattle.house_file.specs.declared.FileFault.{FileFault}
use Rattle.house_read.specs.Answer.{ReadIs}
use Rattle.house_write.specs.Write.{WriteIs, told_written}
use Rattle.fusion.specs.Left.{Lent}
use Rattle.fusion.specs.Answer.{Fuses}
use Rattle.evaluate.specs.Evaluation.{EvaluateIs, told_evaluated}
use Rattle.tell.specs.Gives.{Gives, GivesRead}

abbrev pub sizes : ℕ → ℕ → ℕ → ℕ → ℕ → ℕ → Sizes
sizes wires ands imuls bmuls zeros linears =
    record { wires = wires; ands = ands; imuls = imuls; bmuls = bmuls; zeros = zeros; linears = linears }

-- ---- shifts by number

abbrev pub composed_at : ℕ → ℕ → Result Composition Refusal
composed_at i o = cond (valid_number i && valid_number o) (Ok (compose_valid (shift_at i) (shift_at o))) (Err R.Shift)

abbrev pub compose_told : ℕ → ℕ → Told
compose_told i o = checked (valid_number i && valid_number o) (S.values (compose_valid (shift_at i) (shift_at o)))

abbrev pub pushed_at : ℕ → ℕ → ℕ → ℕ → Result PushInner Refusal
pushed_at i o s slots =
    cond (valid_number i && (valid_number o && valid_number s)) (Ok (push_valid (shift_at i) (shift_at o) (shift_at s) slots)) (Err R.Shift)

abbrev pub push_told : ℕ → ℕ → ℕ → ℕ → Told
push_told i o s slots =
    checked (valid_number i && (valid_number o && valid_number s)) (O.values (push_valid (shift_at i) (shift_at o) (shift_at s) slots))

-- ---- house files

-- s is the bytes
pub record Reads (s terms ands imuls bmuls zeros dsts rhss vs : List ℕ) (r : ℕ) (terms' ands' imuls' bmuls' zeros' dsts' rhss' vs' : List ℕ) : Type 0 where
  pub answer : Result FileRead FileFault
  pub reads : ReadIs s terms ands imuls bmuls zeros dsts rhss answer terms' ands' imuls' bmuls' zeros' dsts' rhss'
  pub gives : GivesRead answer vs r vs'

-- out is the lent bytes before and out' after
pub record Writes (z : Sizes) (s : Stores) (out vs : List ℕ) (r : ℕ) (out' vs' : List ℕ) : Type 0 where
  pub answer : Result ℕ Refusal
  pub writes : WriteIs z s out answer out'
  pub gives : Gives (told_written answer) vs r vs'

-- ---- systems

pub record FusesTo (slots : ℕ) (z : Sizes) (l l' : Lent) (vs : List ℕ) (r : ℕ) (vs' : List ℕ) : Type 0 where
  pub told : Told
  pub fuses : Fuses slots z l l' told
  pub gives : Gives told vs r vs'

-- ws is the assignment, out the lent words before and out' after
pub record Evaluates (z : Sizes) (s : Stores) (ws out vs : List ℕ) (r : ℕ) (out' vs' : List ℕ) : Type 0 where
  pub answer : Result ℕ Refusal
  pub evaluates : EvaluateIs z s ws out answer out'
  pub gives : Gives (told_evaluated answer) vs r vs'
