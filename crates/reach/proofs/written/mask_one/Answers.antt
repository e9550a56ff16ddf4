-- A committed definition keeps the store; another one's mask is made from those of its terms' wires. Assumes nothing.
use Rattle.reach.proofs.Storing.{terms_usable, step_committed, step_open}
use Rattle.reach.specs.Steps.{held_in}
use lib.ListN.{length}
use Rattle.reach.proofs.written.mask_one.Goals as goal

pub returns-then-decisions-i-eq0 : goal.returns-then-decisions-i-eq0
returns-then-decisions-i-eq0 c = step_committed (held_in c.args.system.now c.args.decisions.now) c.args.d.0 c.args.masks.now c.if-decisions-i-eq0.true

pub operand_mask-m-requires : goal.operand_mask-m-requires
operand_mask-m-requires c = terms_usable (held_in c.args.system.now c.args.decisions.now) c.args.d.0 (length c.args.masks.now) c.terms-ts.result.now c.terms-ts.ensures c.requires.usable

pub returns : goal.returns
returns c = step_open (held_in c.args.system.now c.args.decisions.now) c.args.d.0 c.args.masks.now c.terms-ts.result.now c.operand_mask-m.result c.if-decisions-i-eq0.false c.terms-ts.ensures c.operand_mask-m.ensures
