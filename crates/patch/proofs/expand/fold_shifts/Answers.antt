-- Each way of a fold is one of the definition's; what it leaves is valid, so its numbers are low. Assumes nothing.
use Rattle.shift.specs.declared.Shift.{Shift}
use Rattle.patch.proofs.Spells.{number-low}
use Rattle.commit_set.proofs.Valids.{fold_valid}
use Rattle.std.specs.Prelude.{Some, None, ◌⊎◌}
use Rattle.std.proofs.Common.{inl, inr}
use Rattle.operand.specs.declared.PushInner.{PushInner}
use Rattle.operand.specs.declared.PushInner.TheVariants.{Zero, OverBudget}
use Rattle.patch.specs.Spelling.{folded_as}
use Prim.Native.Nat.{ℕ, ◌+◌, ◌*◌}
use mathlib.Core.Path.{◌≡◌, ap, ap₂, sym, ◌∙◌}
use native.Mathlib.Omega.{arith}
use Rattle.patch.proofs.expand.fold_shifts.Goals as goal

pub index-requires : goal.index-requires
index-requires c = (fold_valid c.args.inner c.args.outer c.args.s _ _ c.requires.0 c.requires.1 c.requires.2 (sym c.push_inner.ensures ∙ c.in-Seq.is)).0

pub overflow_mul-result : goal.overflow_mul-result
overflow_mul-result c = let i : Shift = c.in-Seq.i in omega (arith, c.index.ensures, number-low i (fold_valid c.args.inner c.args.outer c.args.s i c.in-Seq.o c.requires.0 c.requires.1 c.requires.2 (sym c.push_inner.ensures ∙ c.in-Seq.is)).0)

pub index-requires-in-Seq : goal.index-requires-in-Seq
index-requires-in-Seq c = (fold_valid c.args.inner c.args.outer c.args.s _ _ c.requires.0 c.requires.1 c.requires.2 (sym c.push_inner.ensures ∙ c.in-Seq.is)).1

pub overflow_mul-result-in-Seq : goal.overflow_mul-result-in-Seq
overflow_mul-result-in-Seq c = let o : Shift = c.in-Seq.o in omega (arith, c.index-in-Seq.ensures, number-low o (fold_valid c.args.inner c.args.outer c.args.s c.in-Seq.i o c.requires.0 c.requires.1 c.requires.2 (sym c.push_inner.ensures ∙ c.in-Seq.is)).1)

pub overflow_add-result : goal.overflow_add-result
overflow_add-result c = let i : Shift = c.in-Seq.i in let o : Shift = c.in-Seq.o in let v = fold_valid c.args.inner c.args.outer c.args.s i o c.requires.0 c.requires.1 c.requires.2 (sym c.push_inner.ensures ∙ c.in-Seq.is) in omega (arith, c.index-in-Seq.ensures, c.index.ensures, number-low i v.0, number-low o v.1)

pub returns-in-Seq : goal.returns-in-Seq
returns-in-Seq c = ap₂ (λ (a b : ℕ). Some (65536 * a + 4294967296 * b)) c.index.ensures c.index-in-Seq.ensures ∙ sym (ap folded_as (sym c.push_inner.ensures ∙ c.in-Seq.is))

nothing_left : (x : PushInner) → (x ≡ Zero) ⊎ (x ≡ OverBudget) → folded_as x ≡ None
nothing_left x (inl e) = ap folded_as e
nothing_left x (inr e) = ap folded_as e

pub returns-in-Zero : goal.returns-in-Zero
returns-in-Zero c = sym (ap folded_as (sym c.push_inner.ensures) ∙ nothing_left c.push_inner.result c.in-Zero.is)
