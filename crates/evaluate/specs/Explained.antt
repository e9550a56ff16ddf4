-- What the number that evaluating gives says of the system, the assignment and the lent words (01, "Numbers given back").
--
--   Explains f       what the number f says: 0, 13 and 12, each just when; 3 to 6 as the checks in memory give them
--
-- Assumes nothing.
use Rattle.std.specs.Prelude.{◌≡◌, ◌↔◌, ℕ, ◌≤◌, ◌<◌, length}
use Rattle.lower.specs.declared.Sizes.{Sizes}
use Rattle.lower.specs.Model.{operands_of}
use Rattle.lower.specs.Stores.{Stores, system_of}
use Rattle.lower.specs.Faults.{memory_fault}
use Rattle.lower.specs.Explained.{Standing}
use Rattle.evaluate.specs.Evaluation.{MAX_WRITTEN_TERMS, ROOM, SIZE}

-- n is the length of the assignment, room that of the lent words
module _ (z : Sizes) (s : Stores) (n room : ℕ) where
  pub record Explains (f : ℕ) : Type 0 where
    pub none : f ≡ 0 ↔ Standing z s MAX_WRITTEN_TERMS × (n ≡ z.wires) × (length (operands_of (system_of z s)) ≤ room)
    pub memory : (memory_fault MAX_WRITTEN_TERMS z s ≡ 0 → ⊥) → f ≡ memory_fault MAX_WRITTEN_TERMS z s
    pub size : f ≡ SIZE ↔ Standing z s MAX_WRITTEN_TERMS × (n ≡ z.wires → ⊥)
    pub short : f ≡ ROOM ↔ Standing z s MAX_WRITTEN_TERMS × (n ≡ z.wires) × (room < length (operands_of (system_of z s)))
