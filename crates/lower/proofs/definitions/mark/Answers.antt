-- Each is a place of the table. Assumes nothing.
use Rattle.std.proofs.Common.{arith}
use Rattle.lower.proofs.Firsts.{all_at}
use Rattle.lower.proofs.definitions.mark.Goals as goal

pub bounds-defined-d : goal.bounds-defined-d
bounds-defined-d c = omega (arith, all_at c.args.dsts.now _ 0 c.requires c.loop-d-test.true, c.loop-d.auto.defined)
