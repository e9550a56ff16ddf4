-- The head, then the operands. Assumes nothing.
use mathlib.Core.Path.{◌∙◌, sym}
use native.Mathlib.Omega.{arith}
use Rattle.house_write.proofs.Storing.{sets-row}
use Rattle.house_write.proofs.emit.row.Goals as goal

pub returns : goal.returns
returns c = (
  omega (arith, c.operands-2.ensures.0),
  c.operands-2.ensures.1 ∙ rw (c.head.ensures, c.operands.ensures.0) (sym (sets-row c.args.stores.now.old.now c.args.stores.now.new.now c.args.tag c.args.hs.now c.requires.place.0 c.requires.operands_fit.0 c.args.out.now c.args.p)),
)
