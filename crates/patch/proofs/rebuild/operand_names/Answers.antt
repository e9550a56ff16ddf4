-- The terms of the operand are those of the part. Assumes nothing.
use Prim.Native.Nat.{ℕ}
use mathlib.Core.Path.{sym, ap, ◌∙◌}
use Rattle.std.specs.List.{list_any}
use Rattle.operand.specs.Numbers.{Term, term_of, operand_of}
use Rattle.lower.specs.Tables.{marked}
use Rattle.lower.proofs.Somes.{some_any, some-map}
use Rattle.patch.specs.Spelling.{names_one}
use Rattle.patch.proofs.rebuild.operand_names.Goals as goal

pub returns : goal.returns
unfolding operand_of names_one
returns c =
    let p = λ (t : Term). marked c.args.table.now t.wire in
    c.terms_name.ensures ∙ ap (list_any (λ (t : ℕ). p (term_of t))) c.terms.ensures
    ∙ sym (some-map p term_of _ ∙ some_any (λ (t : ℕ). p (term_of t)) _)
