-- A field that is no Linear has no destination; a Linear's is the number after its head. Assumes nothing.
use Rattle.house_fill.proofs.Fills.{destination_other, destination_linear}
use native.Mathlib.Omega.{arith}
use mathlib.Core.Path.{refl, sym, ◌∙◌}
use Rattle.house_fill.proofs.put_destination.Goals as goal

pub returns-then-tag-ne-LINEAR : goal.returns-then-tag-ne-LINEAR
returns-then-tag-ne-LINEAR c =
    let e = destination_other c.args.s.now c.args.at (λ h. c.if-tag-ne-LINEAR.true (c.byte-tag.ensures.0 ∙ h)) in
    rw e (omega arith, (omega arith, refl))

pub returns : goal.returns
returns c =
    let e = destination_linear c.args.s.now c.args.at (sym c.byte-tag.ensures.0 ∙ c.if-tag-ne-LINEAR.false) in
    rw e (omega arith, (omega arith, c.put.ensures ∙ rw c.num.ensures.0))
