-- The two ways of the definition, room or none. Assumes nothing.
use native.Mathlib.Omega.{arith}
use Rattle.legraph.specs.Tables.{graph}
use Rattle.legraph.proofs.Laws.{push_full, push_room}
use Rattle.legraph.proofs.uses.add_edge.Goals as goal

pub returns-then-uses-n : goal.returns-then-uses-n
returns-then-uses-n c = (push_full c.args.user c.args.shift c.args.d.0 (graph c.args.first.now c.args.uses.now c.args.n) c.if-uses-n.true, omega arith)

pub returns : goal.returns
returns c = (cc (push_room c.args.user c.args.shift c.args.d.0 c.args.first.now c.args.uses.now c.args.n c.if-uses-n.false, c.put.ensures, c.number.ensures, c.first_of-next.ensures), omega arith)
