-- Each stands in its store. Assumes nothing.
use Rattle.lower.proofs.Firsts.{all_at}
use Rattle.lower.proofs.definitions.operands_double.Goals as goal

pub operand_double-requires : goal.operand_double-requires
operand_double-requires c = all_at c.args.hs.now _ 0 c.requires c.loop-h-test.true
