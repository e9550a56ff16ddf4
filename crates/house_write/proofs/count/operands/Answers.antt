-- What is counted and what is left make the whole. Assumes nothing.
use mathlib.Core.Path.{◌≡◌, ap, ◌∙◌}
use native.Mathlib.Omega.{arith}
use lib.ListN.{get_or}
use Rattle.lower.specs.Faults.{length_of}
use Rattle.operand.specs.declared.WireOperand.{WireOperand}
use Rattle.house_write.proofs.Counting.{size_step, size_none}
use Rattle.house_write.proofs.count.operands.Goals as goal

pub loop-h-preserved : goal.loop-h-preserved
loop-h-preserved c =
    let e : c.len.result ≡ length_of (get_or c.args.hs.now c.loop-h.h-index 0) = c.len.ensures ∙ ap (λ (o : WireOperand). o.len) c.from_number.ensures in
    let s = size_step c.args.hs.now c.loop-h.h-index c.loop-h-test.true in
    (omega (arith, s, e), omega (arith, e))

pub returns : goal.returns
returns c = omega (arith, size_none c.args.hs.now c.loop-h.h-index c.loop-h-test.false)
