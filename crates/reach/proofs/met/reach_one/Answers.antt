-- The terms of the definition take in what of it gets in. Assumes nothing.
use Rattle.reach.proofs.Pulling.{operand_usable, reach_is}
use Rattle.reach.specs.Steps.{held_in}
use lib.ListN.{length, get_or}
use mathlib.Core.Path.{◌∙◌}
use Rattle.reach.proofs.met.reach_one.Goals as goal

pub pull_terms-requires : goal.pull_terms-requires
pull_terms-requires c = operand_usable c.args.system.now.stores.old.now c.args.system.now.stores.new.now (get_or c.args.system.now.rhss.now c.args.d.0 0) c.terms-ts.result.now c.terms-ts.ensures (length c.args.masks.now) c.requires.usable

pub returns : goal.returns
returns c = c.pull_terms.ensures ∙ reach_is (held_in c.args.system.now c.args.decisions.now) c.args.d.0 c.taken-m.result c.terms-ts.result.now c.args.masks.now c.taken-m.ensures c.terms-ts.ensures
