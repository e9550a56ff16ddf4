-- The patched lists as numbers in stores.
--
--   handles_from n os    the numbers of operands that are written one after the other to the new store, from the place n on
--   cut_at n os          operands that are written one after the other where there is room for n terms: of each the terms that there is room for
--   keep_by q ds hs      of the numbers hs those whose destination passes the test
--   commits_from c ds w n  the committed definitions of the wires w, w + 1, .., n of them
--
-- Assumes nothing.
use Rattle.std.specs.Prelude.{ℕ, zero, suc, ◌+◌, ◌-◌, Bool, true, cond, List, [], ◌∷◌, ◌++◌, length, take}
use Rattle.operand.specs.Numbers.{Operand, operand_number}
use Rattle.lower.specs.Model.{Definition}
use Rattle.patch.specs.Patch.{commit_at}

unfoldable pub handles_from : ℕ → List Operand → List ℕ
handles_from n [] = []
handles_from n (o ∷ os) = operand_number (record { start = n; len = length o; new = true }) ∷ handles_from (n + length o) os

unfoldable pub cut_at : ℕ → List Operand → List Operand
cut_at n [] = []
cut_at n (o ∷ os) = take n o ∷ cut_at (n - length o) os

unfoldable pub keep_by : (ℕ → Bool) → List ℕ → List ℕ → List ℕ
keep_by q [] hs = []
keep_by q (d ∷ ds) [] = []
keep_by q (d ∷ ds) (h ∷ hs) = cond (q d) (h ∷ keep_by q ds hs) (keep_by q ds hs)

unfoldable pub commits_from : (ℕ → Bool) → List Definition → ℕ → ℕ → List Definition
commits_from c ds w zero = []
commits_from c ds w (suc n) = commit_at c ds w ++ commits_from c ds (suc w) n
