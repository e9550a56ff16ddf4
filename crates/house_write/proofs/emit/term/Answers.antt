-- Three numbers, one after the other. Assumes nothing.
use Rattle.operand.specs.Numbers.{term_of}
use mathlib.Core.Path.{◌∙◌, sym}
use Rattle.house_write.proofs.Storing.{sets_term}
use Rattle.house_write.proofs.emit.term.Goals as goal

pub returns : goal.returns
returns c =
    c.put16-3.ensures ∙ rw (c.put16-2.ensures, c.put16.ensures, c.outer.ensures, c.inner.ensures, c.wire-wire.ensures)
    (sym (sets_term c.args.out.now c.args.p (term_of c.args.t).wire (term_of c.args.t).inner (term_of c.args.t).outer))
