-- What `fill_back` answers and leaves (01, "Numbers given back": "filling back 4, 5, 6, 8 to 11, 13"; "Strength of the contracts":
-- "Filling back is stated over the original definitions, never the program's order").
--
--   flagged flags      the committed wires: "Flags are bytes, 0 for not committed"
--   lengthsFault       13 where the flags or the assignment have not one place a wire
--   FillsIs .. r       the answer r, and the assignment before and after, for each case in turn
--
-- Assumes nothing.
use Rattle.std.specs.Prelude.{◌≡◌, ℕ, Bool, true, false, ◌&&◌, List, eqb, length}
use Rattle.lower.specs.declared.Sizes.{Sizes}
use Rattle.lower.specs.Accepted.{MAX_TERMS, Reaches, NoCircle}
use Rattle.lower.specs.Tables.{marked}
use Rattle.lower.specs.Stores.{Stores, system_of}
use Rattle.lower.specs.Faults.{fault_of}
use Rattle.commit_set.specs.Answer.{CIRCLE}
use Rattle.undo.specs.FillBack.{FilledBack}
use Rattle.evaluate.specs.Evaluation.{SIZE}

abbrev pub flagged : List ℕ → ℕ → Bool
flagged flags = marked flags

-- "assignment or wire flags not as long as the wire count"
unfoldable pub lengths_right : Sizes → List ℕ → List ℕ → Bool
lengths_right z flags ws = eqb (length flags) z.wires && eqb (length ws) z.wires

-- s is the system to fill back for, ws the assignment before and ws' after; "a refusal fills nothing"
pub data FillsIs (z : Sizes) (s : Stores) (flags ws ws' : List ℕ) : ℕ → Type 0 where
  refused : {r : ℕ} → r ≡ fault_of MAX_TERMS z s → (r ≡ 0 → ⊥) → ws' ≡ ws → FillsIs z s flags ws ws' r
  circular : fault_of MAX_TERMS z s ≡ 0 → (w : ℕ) → Reaches (system_of z s) w w → ws' ≡ ws → FillsIs z s flags ws ws' CIRCLE
  sized : fault_of MAX_TERMS z s ≡ 0 → NoCircle (system_of z s) → lengths_right z flags ws ≡ false → ws' ≡ ws → FillsIs z s flags ws ws' SIZE
  filled : fault_of MAX_TERMS z s ≡ 0 → NoCircle (system_of z s) → lengths_right z flags ws ≡ true → length ws' ≡ length ws
      → FilledBack (system_of z s) (flagged flags) ws ws' → FillsIs z s flags ws ws' 0
