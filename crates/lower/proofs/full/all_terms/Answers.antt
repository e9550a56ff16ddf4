-- The five sums added up. Assumes nothing.
use Rattle.std.proofs.Common.{arith, ap, ◌∙◌}
use Rattle.lower.specs.Lists.{sum_of}
use Rattle.lower.specs.Stores.{row_handles}
use Rattle.lower.specs.Faults.{length_of}
use Rattle.lower.proofs.Firsts.{sum-append}
use Rattle.lower.proofs.full.all_terms.Goals as goal

pub returns : goal.returns
unfolding row_handles
returns c =
    simp (sum-append)
    (omega (
      arith,
      c.terms_of.ensures.0 ∙ ap (sum_of length_of) c.and_operands.ensures,
      c.terms_of-2.ensures.0 ∙ ap (sum_of length_of) c.imul_operands.ensures,
      c.terms_of-3.ensures.0 ∙ ap (sum_of length_of) c.bmul_operands.ensures,
      c.terms_of-4.ensures.0 ∙ ap (sum_of length_of) c.zero_operands.ensures,
      c.terms_of-5.ensures.0 ∙ ap (sum_of length_of) c.right_sides.ensures,
    ))
