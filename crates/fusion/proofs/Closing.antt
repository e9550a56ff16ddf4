-- Rows closed up by the table are those that are left, and an answer with the patched system in the stores. Assumes nothing.
use mathlib.Core.Path.{◌≡◌, refl, ap, ◌∙◌}
use Prim.Native.Nat.{ℕ, ◌+◌, ◌*◌, ◌-◌, ◌≤◌}
use native.Mathlib.Omega.{arith}
use mathlib.Core.Bool.{Bool, true, not}
use mathlib.Core.List.{List, [], ◌++◌, map}
use lib.ListN.{length, take, length-map}
use lib.Seq.{length-take-le}
use Rattle.operand.specs.Numbers.{operand_of}
use Rattle.lower.specs.declared.Sizes.{Sizes}
use Rattle.lower.specs.Lists.{joined}
use Rattle.lower.specs.Accepted.{Once, NoCircle}
use Rattle.lower.specs.Model.{System}
use Rattle.lower.specs.Stores.{chunks, rows_of}
use Rattle.lower.specs.Faults.{memory_fault}
use Rattle.lower.proofs.Laws.{chunks_flat}
use Rattle.legraph.proofs.Listing.{table_of}
use Rattle.commit_set.specs.declared.Decision.{Decision}
use Rattle.commit_set.specs.Decision.{Solves}
use Rattle.commit_set.specs.Answer.{decision_fault}
use Rattle.commit_set.proofs.Answers.{memory_none, slots_few}
use Rattle.commit_set.proofs.Theorem.{decided_accepted}
use Rattle.patch.specs.Patch.{commit_set, expand_operand, rebuilt, row_rebuilds, rebuilds}
use Rattle.patch.proofs.Handles.{handles_length}
use Rattle.apply.specs.Applied.{untouched, kept_rows, rows_after}
use Rattle.std.specs.Prelude.{Ok}
use Rattle.fusion.specs.Left.{Lent, input, fused, is_kept, numbers, has_room, counts_of, leaves}
use Rattle.fusion.specs.Answer.{told_fused, Fuses, patches}
use Rattle.fusion.proofs.Models.{keep_same, untouched-is}
use Rattle.fusion.proofs.System.{parted_length, kept_length, system_left}

pub numbers_length : (p : System) (c : ℕ → Bool) → length (numbers p c) ≡ length (rebuilds p c)
unfolding numbers
numbers_length p c = handles_length 0 (map (expand_operand p c) (rebuilds p c)) ∙ length-map (rebuilds p c) (expand_operand p c)

module _ (z : Sizes) (l : Lent) (e : memory_fault 8192 z (input l) ≡ 0) (once : Once (fused z l).linears) (k n : ℕ) (hs : List ℕ) where
  pub kept_are : kept_rows (untouched l.old [] (table_of 4096 (fused z l))) k n hs ≡ kept_rows (is_kept z l) k n hs
  unfolding kept_rows is_kept
  kept_are =
      ap joined (keep_same (untouched l.old [] (table_of 4096 (fused z l))) (λ (r : List ℕ). not (rebuilt (fused z l).linears (map (operand_of l.old []) r))) (untouched-is z (input l) e once []) (chunks k n hs))

  -- as many numbers are struck as operands are rebuilt
  pub struck_count : (c : ℕ → Bool) → k * n ≤ length hs
      → length (kept_rows (is_kept z l) k n hs) + length (row_rebuilds (fused z l) c (rows_of (operand_of l.old []) k n hs)) ≡ k * n
  unfolding kept_rows is_kept row_rebuilds
  struck_count c long =
      let f = operand_of l.old [] in
      let whole : length (joined (chunks k n hs)) ≡ k * n = ap length (chunks_flat k n hs) ∙ length-take-le (k * n) hs long in
      omega (arith, kept_length (rebuilt (fused z l).linears) f (chunks k n hs), parted_length (λ (r : List ℕ). rebuilt (fused z l).linears (map f r)) (chunks k n hs), whole)

  -- THE THEOREM. What the program leaves of a list of rows
  pub rows_after_lem : (c : ℕ → Bool) (es : List ℕ) → k * n ≤ length hs
      → rows_after (untouched l.old [] (table_of 4096 (fused z l))) k n hs es
      ≡ kept_rows (is_kept z l) k n hs ++ take (length (row_rebuilds (fused z l) c (rows_of (operand_of l.old []) k n hs))) es
  unfolding rows_after
  rows_after_lem c es long =
      let r : k * n - length (kept_rows (is_kept z l) k n hs) ≡ length (row_rebuilds (fused z l) c (rows_of (operand_of l.old []) k n hs)) = omega (arith, struck_count c long) in
      ap (λ (u : List ℕ). u ++ take (k * n - length u) es) kept_are ∙ ap (λ (i : ℕ). kept_rows (is_kept z l) k n hs ++ take i es) r

-- an answer, where the decisions are a solution and the whole result fits
pub fuses_patched : (slots : ℕ) (z : Sizes) (l : Lent) (st : ℕ → Decision) → decision_fault slots z (input l) ≡ 0 → NoCircle (fused z l) → Solves slots (fused z l) st
    → has_room (fused z l) (commit_set (fused z l) st) l ≡ true
    → Fuses slots z l (leaves z l (commit_set (fused z l) st)) (told_fused (Ok (counts_of (fused z l) (commit_set (fused z l) st))))
fuses_patched slots z l st f none solves fits =
    patches f none st
    (record {
      solves = solves;
      fits = fits;
      left = refl;
      system = system_left slots z l st (memory_none slots z (input l) f) (decided_accepted slots z (input l) f none) solves (slots_few slots z (input l) f) fits;
    })
