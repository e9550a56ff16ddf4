-- Each turn adds the place that it passes over. Assumes nothing.
use Rattle.patch.proofs.Passing.{clear_more}
use native.Mathlib.Omega.{arith}
use Rattle.patch.proofs.expand.next_live.Goals as goal

pub loop-i-init : goal.loop-i-init
loop-i-init c = (omega arith, c.requires, λ j a b. absurd (omega arith))

pub returns-then-ms-i-ne0 : goal.returns-then-ms-i-ne0
returns-then-ms-i-ne0 c = (c.loop-i.invariant.0, c.loop-i.invariant.1, c.loop-i.invariant.2, λ h. c.if-ms-i-ne0.true)

pub loop-i-preserved : goal.loop-i-preserved
loop-i-preserved c = (omega (arith, c.loop-i.invariant.0), omega (arith, c.loop-i-test.true), clear_more c.args.ms.now c.args.mask c.args.from c.loop-i.i c.loop-i.invariant.2 c.if-ms-i-ne0.false)

pub returns : goal.returns
returns c = (c.requires, omega arith, λ j a b. c.loop-i.invariant.2 j a (omega (arith, c.loop-i-test.false)), λ h. absurd (omega arith))
