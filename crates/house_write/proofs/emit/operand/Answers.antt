-- Its terms are a part of a store. Assumes nothing.
use mathlib.Core.Path.{◌∙◌, ap}
use native.Mathlib.Omega.{arith}
use lib.ListN.{length}
use Rattle.operand.specs.Numbers.{operand_of}
use Rattle.house_write.proofs.Storing.{terms_length}
use Rattle.house_write.proofs.emit.operand.Goals as goal

pub counted-requires : goal.counted-requires
counted-requires c =
    let s = c.args.stores.now in
    (rw c.terms.ensures c.requires.0.short, omega (arith, ap length c.terms.ensures, terms_length s.old.now s.new.now c.args.h c.requires.0.stands, c.requires.1))

pub returns : goal.returns
unfolding operand_of
returns c =
    let s = c.args.stores.now in (
      omega (arith, c.counted.ensures.0, ap length c.terms.ensures, terms_length s.old.now s.new.now c.args.h c.requires.0.stands),
      c.counted.ensures.1 ∙ rw c.terms.ensures,
    )
