-- What `evaluate` answers and leaves (01, "Shifts": "An operand's value is the xor of its terms' words ..; the evaluator writes them all, in
-- the writer's order, to a lent store"; "Numbers given back": "the evaluator 4, 5, 6, 13, 12").
--
--   MAX_WRITTEN_TERMS  "The last two's 6 allows 24,576 terms"
--   SIZE, ROOM         their numbers
--   values_of p w       the values of all operands, in the writer's order; w i is the word of wire i
--   size_fault, room_fault   13 where the assignment has not one word a wire; 12 where so many lent words are too few
--   evaluation_fault    all of it in 01's order
--   told_evaluated      number and values of each case: a refusal's number, or how many values there are
--   EvaluateIs         the number of the answer, the values of its case, and what the lent words are afterwards: the values from their
--                      front on and the rest as it was; on a refusal all as it was
--
-- Assumes nothing.
use Rattle.std.specs.Prelude.{◌≡◌, ℕ, zero, suc, List, [], ◌∷◌, map, leb, eqb, length, Result}
use Rattle.std.proofs.lemmas.List.Edits.{sets}
use Rattle.refusal.specs.declared.Refusal.{Refusal}
use Rattle.refusal.specs.Refusals.{fault_in}
use Rattle.word.specs.Answers.{Told, given, refused, told_by}
use Rattle.lower.specs.declared.Sizes.{Sizes}
use Rattle.lower.specs.Model.{System, operands_of}
use Rattle.lower.specs.Values.{value, word_of}
use Rattle.lower.specs.Stores.{Stores, system_of}
use Rattle.lower.specs.Faults.{or_else, unless, memory_fault}

abbrev pub MAX_WRITTEN_TERMS : ℕ
MAX_WRITTEN_TERMS = 24576

abbrev pub ROOM : ℕ
ROOM = 12

-- "13 | SIZE | assignment or wire flags not as long as the wire count"
abbrev pub SIZE : ℕ
SIZE = 13

unfoldable pub values_of : System → (ℕ → ℕ) → List ℕ
values_of p w = map (value w) (operands_of p)

abbrev pub size_fault : ℕ → ℕ → ℕ
size_fault wires n = unless (eqb n wires) SIZE

abbrev pub room_fault : System → ℕ → ℕ
room_fault p room = unless (leb (length (operands_of p)) room) ROOM

-- n is the length of the assignment, room that of the lent words
unfoldable pub evaluation_fault : Sizes → Stores → ℕ → ℕ → ℕ
evaluation_fault z s n room = or_else (memory_fault MAX_WRITTEN_TERMS z s) (or_else (size_fault z.wires n) (room_fault (system_of z s) room))

unfoldable pub values_by : ℕ → List ℕ → List ℕ
values_by zero vs = vs
values_by (suc f) vs = []

abbrev pub told_evaluated : Result ℕ Refusal → Told
told_evaluated = told_by (λ n. n ∷ [])

unfoldable pub numbered_by : ℕ → List ℕ → Told
numbered_by zero vs = given vs
numbered_by (suc f) vs = refused (suc f)

-- ws is the assignment, out the lent words before and out' after
pub record EvaluateIs (z : Sizes) (s : Stores) (ws out : List ℕ) (r : Result ℕ Refusal) (out' : List ℕ) : Type 0 where
  pub answer : fault_in r ≡ evaluation_fault z s (length ws) (length out)
  pub tells : told_evaluated r ≡ numbered_by (evaluation_fault z s (length ws) (length out)) (length (operands_of (system_of z s)) ∷ [])
  pub filled : out' ≡ sets out 0 (values_by (evaluation_fault z s (length ws) (length out)) (values_of (system_of z s) (word_of ws)))
