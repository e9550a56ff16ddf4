-- What fusing answers (01, "Numbers given back": 3, 4, 5, 6, 7, 8, 9, 10, 11, 12).
--
--   counted k           the five counts, in the paper's order
--   told_fused r        the paper's number of a refusal, or the values of an answer
--   Fuses slots z l l' r   the answer r, and what was lent, before and after, for each case in turn
--
-- Assumes nothing.
use Rattle.std.specs.Prelude.{◌≡◌, ℕ, true, false, List, [], ◌∷◌, Result, Ok}
use Rattle.refusal.specs.declared.Refusal.{Refusal}
use Rattle.word.specs.Answers as T
use Rattle.word.specs.Answers.{Told, told_by}
use Rattle.lower.specs.declared.Sizes.{Sizes}
use Rattle.lower.specs.Accepted.{Reaches, NoCircle}
use Rattle.lower.specs.Stores.{system_of}
use Rattle.commit_set.specs.declared.Decision.{Decision}
use Rattle.commit_set.specs.Decision.{Solves}
use Rattle.commit_set.specs.Answer.{CIRCLE, ROOM, decision_fault}
use Rattle.patch.specs.Patch.{commit_set, patched}
use Rattle.fusion.specs.declared.Counts.{Counts}
use Rattle.fusion.specs.Left.{Lent, input, output, fused, has_room, counts_of, sizes_after, leaves}

abbrev pub counted : Counts → List ℕ
counted k = k.gone ∷ k.stranded ∷ k.committed ∷ k.written ∷ k.kept ∷ []

unfoldable pub told_fused : Result Counts Refusal → Told
told_fused = told_by counted

-- the decisions are the solution of the rules, and the whole result fits
pub record Patches (slots : ℕ) (z : Sizes) (l l' : Lent) (st : ℕ → Decision) : Type 0 where
  pub solves : Solves slots (fused z l) st
  pub fits : has_room (fused z l) (commit_set (fused z l) st) l ≡ true
  pub left : l' ≡ leaves z l (commit_set (fused z l) st)
  -- demand 2: what stands in the stores afterwards
  pub system : system_of (sizes_after (fused z l) (commit_set (fused z l) st) z) (output l') ≡ patched (fused z l) (commit_set (fused z l) st)

-- "a refusal fills nothing"
pub data Fuses (slots : ℕ) (z : Sizes) (l l' : Lent) : Told → Type 0 where
  refused : {r : ℕ} → r ≡ decision_fault slots z (input l) → (r ≡ 0 → ⊥) → l' ≡ l → Fuses slots z l l' (T.refused r)
  circular : decision_fault slots z (input l) ≡ 0 → (w : ℕ) → Reaches (fused z l) w w → l' ≡ l → Fuses slots z l l' (T.refused CIRCLE)
  short : decision_fault slots z (input l) ≡ 0 → NoCircle (fused z l) → (st : ℕ → Decision) → Solves slots (fused z l) st
      → has_room (fused z l) (commit_set (fused z l) st) l ≡ false → l' ≡ l → Fuses slots z l l' (T.refused ROOM)
  patches : decision_fault slots z (input l) ≡ 0 → NoCircle (fused z l) → (st : ℕ → Decision) → Patches slots z l l' st
      → Fuses slots z l l' (told_fused (Ok (counts_of (fused z l) (commit_set (fused z l) st))))
