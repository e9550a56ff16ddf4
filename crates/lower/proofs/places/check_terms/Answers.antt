-- The first fault of all terms is the first of those that are left. Assumes nothing.
use Rattle.operand.specs.Numbers.{term_of}
use Rattle.lower.specs.Faults.{term_fault}
use Rattle.lower.proofs.Firsts.{first_map}
use Rattle.lower.proofs.places.check_terms.Goals as goal

pub loop-t-init : goal.loop-t-init
loop-t-init c = first_map (term_fault c.args.wires) term_of c.args.ts.now
