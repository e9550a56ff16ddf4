-- What is written so far and what is left are the whole. Assumes nothing.
use Rattle.apply.proofs.Definitions.{flags_none, flags_step}
use mathlib.Core.Path.{◌∙◌}
use Rattle.apply.proofs.write_flags.Goals as goal

pub loop-w-preserved : goal.loop-w-preserved
loop-w-preserved c = flags_step c.args.table.now c.args.decisions.now c.loop-w.w c.args.wires c.loop-w-test.true c.loop-w.flags c.flag_of.result c.flag_of.ensures ∙ c.loop-w.invariant

pub returns : goal.returns
returns c = rw (flags_none c.args.table.now c.args.decisions.now c.loop-w.w c.args.wires c.loop-w-test.false) at c.loop-w.invariant
