-- The count, then the terms. Assumes nothing.
use mathlib.Core.Path.{◌∙◌, sym}
use native.Mathlib.Omega.{arith}
use Rattle.house_write.proofs.Storing.{sets-counted}
use Rattle.house_write.proofs.emit.counted.Goals as goal

pub returns : goal.returns
returns c =
    (omega arith, c.terms.ensures ∙ rw c.put16.ensures (sym (sets-counted c.args.out.now c.args.p c.args.ts.now)))
