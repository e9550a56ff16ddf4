-- The operands from the last one on are the whole. Assumes nothing.
use Rattle.std.proofs.Common.{arith, sym, ◌∙◌, ◌-◌}
use lib.Seq.{drop-length}
use Rattle.operand.specs.Numbers.{operand_of}
use Rattle.lower.proofs.Firsts.{all_at}
use Rattle.legraph.specs.Tables.{graph, note_from}
use Rattle.legraph.proofs.Laws.{operands_back}
use Rattle.legraph.proofs.uses.harvest_uses.Goals as goal

pub loop-i-init : goal.loop-i-init
unfolding note_from
loop-i-init c = (c.requires.room.0, rw (drop-length c.args.hs.now))

pub note_operand-k-requires : goal.note_operand-k-requires
note_operand-k-requires c =
    (omega (arith, c.loop-i.auto.uses, c.loop-i.invariant.0), omega (arith, c.loop-i.auto.uses, c.requires.room.1), all_at c.args.hs.now (c.loop-i.i - 1) 0 c.requires.all_stand.1 (omega arith))

pub loop-i-preserved : goal.loop-i-preserved
loop-i-preserved c = (
  omega (arith, c.note_operand-k.ensures.1, c.loop-i.auto.uses),
  c.note_operand-k.ensures.0 ∙ rw (c.user_at-user.ensures, c.loop-i.invariant.1) (sym (operands_back (operand_of c.args.stores.now.old.now c.args.stores.now.new.now) c.args.table.now c.args.linear c.args.hs.now c.loop-i.i (graph c.args.first.now c.args.uses.now c.args.n) (omega arith) (omega arith))),
)
