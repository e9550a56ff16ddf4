-- What is left to store, stored from where the walk stands, makes the bytes that are asked for. Assumes nothing.
use Rattle.house_write.proofs.Storing.{sets_terms, sets_no_terms, all_at}
use mathlib.Core.Path.{sym, ◌∙◌, refl}
use native.Mathlib.Omega.{arith}
use Rattle.house_write.proofs.emit.terms.Goals as goal

pub term-requires : goal.term-requires
term-requires c = (all_at c.args.ts.now c.loop-t.t-index c.requires.0 c.loop-t-test.true, omega (arith, c, c.requires, c.loop-t-test.true))

pub loop-t-preserved : goal.loop-t-preserved
loop-t-preserved c = (
  c.loop-t.invariant.0 ∙ sets_terms c.loop-t.out c.args.ts.now c.loop-t.q c.loop-t.t-index c.loop-t-test.true ∙ rw c.term.ensures,
  omega (arith, c.loop-t.invariant.1),
)

pub returns : goal.returns
returns c =
    sym (c.loop-t.invariant.0 ∙ sets_no_terms c.loop-t.out c.args.ts.now c.loop-t.q c.loop-t.t-index c.loop-t-test.false)
