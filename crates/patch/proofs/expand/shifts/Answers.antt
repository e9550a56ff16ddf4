-- What is below 65536 is the wire. Assumes nothing.
use Rattle.patch.proofs.Folds.{bare-number}
use Rattle.patch.proofs.expand.shifts.Goals as goal

pub returns : goal.returns
returns c = bare-number c.args.t
