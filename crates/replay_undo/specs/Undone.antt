-- Filling back over the original definitions, and what is refused.
--
--   wires_of             how many of some words are looked at
--   Filled              filled back from the words `before`: how many words are then the expected ones, where `told` is answered
--   Returns             every word has to return
--   Stays                13 has to be answered, and every word has to stay; ShortFlags, ShortWords, so with a flag or a word too few
--   Undone              all of it, with the flags of fusing, with others, and with all wires committed, where each word has to stay
--   Undo                with the words of all uncommitted defined wires overwritten, and flags 201 on wires that are not defined
--   Evaluation          with room for so many values: right where the evaluator answers what is told and all places are the expected ones
--   Evaluations         a word too few, room for a value too few, just room enough, and the places behind the values
--
-- What `fill_back` and `evaluate` leave is said by their contracts: each of the relations here names what was left.
--
-- Assumes nothing.
use Rattle.std.specs.Prelude.{◌≡◌, ◌↔◌, IsTrue, ℕ, Bool, ◌-◌, ◌==◌, min, List, length, take, replicate, Option, Some, None, unwrap_or, Result, Ok, Err}
use Rattle.refusal.specs.declared.Refusal.{Refusal}
use Rattle.refusal.specs.declared.Refusal.TheVariants.{Size, Room}
use Rattle.refusal.specs.Refusals.{fault_in}
use Rattle.lower.specs.declared.Sizes.{Sizes}
use Rattle.lower.specs.Stores.{Stores}
use Rattle.fill_back.specs.Filling.{FillsIs}
use Rattle.evaluate.specs.Evaluation.{EvaluateIs}
use Rattle.replay_undo.specs.declared.tally.Tally.{Tally}
use Rattle.replaying.specs.Places.{UNTOUCHED}
use Rattle.replay_undo.specs.Places.{same_places}
use Rattle.replay_undo.specs.Tallies.{words_counted, answer_counted}
use Rattle.replay_undo.specs.Words.{overwritten, laid_flags}
use Rattle.replay_undo.specs.Values.{rows_of, count_of}

-- z and s are the original system
module _ (z : Sizes) (s : Stores) where
  abbrev pub wires_of : List ℕ → ℕ
  wires_of words = min (length words) 4096

  pub record Filled (flags before : List ℕ) (told : Result (Unit {0}) Refusal) (expected : List ℕ) (r : Option ℕ) : Type 0 where
    pub after : List ℕ
    pub answer : Result (Unit {0}) Refusal
    pub fills : FillsIs z s flags (take (wires_of before) before) after (fault_in answer)
    pub as_told : answer ≡ told → r ≡ Some (same_places after expected 0 (length expected))
    pub otherwise : (answer ≡ told → ⊥) → r ≡ None

  pub record Returns (flags noisy words : List ℕ) (t r : Tally) : Type 0 where
    pub same : Option ℕ
    pub filled : Filled flags noisy (Ok tt) words same
    pub counted : r ≡ words_counted t (unwrap_or same 0) (length words)

  -- refused with 13, and each word stays
  pub record Stays (flags noisy : List ℕ) (t r : Tally) : Type 0 where
    pub same : Option ℕ
    pub is_right : Bool
    pub filled : Filled flags noisy (Err Size) noisy same
    pub right_is : IsTrue is_right ↔ same ≡ Some (length noisy)
    pub counted : r ≡ answer_counted t is_right

  abbrev pub ShortFlags : List ℕ → List ℕ → Tally → Tally → Type 0
  ShortFlags flags noisy t r = Stays (take (length flags - 1) flags) noisy t r

  abbrev pub ShortWords : List ℕ → List ℕ → Tally → Tally → Type 0
  ShortWords flags noisy t r = Stays flags (take (length noisy - 1) noisy) t r

  pub record Undone (flags other all noisy words : List ℕ) (t r : Tally) : Type 0 where
    pub once : Tally
    pub twice : Tally
    pub thrice : Tally
    pub fourth : Tally
    pub returned : Returns flags noisy words t once
    pub again : Returns other noisy words once twice
    pub stayed : Returns all noisy noisy twice thrice
    pub flags_short : ShortFlags flags noisy thrice fourth
    pub words_short : ShortWords flags noisy fourth r

  pub record Undo (flags words : List ℕ) (t r : Tally) : Type 0 where
    pub noisy : List ℕ
    pub other : List ℕ
    pub overwrites : noisy ≡ overwritten s.dsts flags (rows_of z.linears) (take (wires_of words) words)
    pub lays : other ≡ laid_flags s.dsts flags (rows_of z.linears) (take (wires_of words) (replicate 4096 201))
    pub undone : Undone flags other (take (wires_of words) (replicate 4096 201)) noisy words t r

abbrev pub blank : List ℕ
blank = replicate 7168 UNTOUCHED

module _ (z : Sizes) (s : Stores) where
  pub record Evaluation (words : List ℕ) (room : ℕ) (told : Result ℕ Refusal) (expected : List ℕ) (t r : Tally) : Type 0 where
    pub out : List ℕ
    pub answer : Result ℕ Refusal
    pub is_right : Bool
    pub evaluates : EvaluateIs z s words (take (min room 7168) blank) answer out
    pub right_is : IsTrue is_right ↔ (answer ≡ told) × (same_places out expected 0 (length out) ≡ length out)
    pub counted : r ≡ answer_counted t is_right

  pub record Evaluations (words values : List ℕ) (t r : Tally) : Type 0 where
    pub once : Tally
    pub twice : Tally
    pub thrice : Tally
    pub words_short : Evaluation (take (length words - 1) words) 7168 (Err Size) blank t once
    pub room_short : Evaluation words (count_of z - 1) (Err Room) blank once twice
    pub enough : Evaluation words (count_of z) (Ok (count_of z)) values twice thrice
    pub rest : r ≡ answer_counted thrice (same_places values blank (count_of z) (7168 - count_of z) == 7168 - count_of z)
