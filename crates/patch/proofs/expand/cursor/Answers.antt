-- The two ways of the definition. Assumes nothing.
use borrow.Author.Tests.{lt-ltb, le-ltb}
use Rattle.patch.proofs.expand.cursor.Goals as goal

pub returns-then-end-n : goal.returns-then-end-n
returns-then-end-n c = rw (lt-ltb c.args.end c.args.n c.if-end-n.true)

pub returns : goal.returns
returns c = rw (le-ltb c.args.end c.args.n c.if-end-n.false)
