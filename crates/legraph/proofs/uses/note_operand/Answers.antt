-- The terms from the last one on are the whole. Assumes nothing.
use Rattle.std.proofs.Common.{arith, ◌≡◌, sym, ◌∙◌}
use lib.Seq.{drop-length}
use Rattle.operand.specs.Numbers.{operand_of}
use Rattle.legraph.specs.Tables.{graph, note_terms}
use Rattle.legraph.proofs.Laws.{terms_back}
use Rattle.legraph.proofs.uses.note_operand.Goals as goal

pub loop-i-init : goal.loop-i-init
unfolding note_terms
loop-i-init c = (c.requires.0, rw (drop-length c.terms-ts.result.now))

pub loop-i-preserved : goal.loop-i-preserved
loop-i-preserved c = (
  omega (arith, c.note_use-k.ensures.1, c.loop-i.auto.uses),
  c.note_use-k.ensures.0 ∙ rw c.loop-i.invariant.1 (sym (terms_back c.args.table.now c.args.user c.terms-ts.result.now c.loop-i.i (graph c.args.first.now c.args.uses.now c.args.n) (omega arith) (omega arith))),
)

pub returns : goal.returns
unfolding operand_of
returns c = let e : c.loop-i.i ≡ 0 = omega arith in
    (rw (e, c.terms-ts.ensures) at c.loop-i.invariant.1, c.loop-i.invariant.0)
