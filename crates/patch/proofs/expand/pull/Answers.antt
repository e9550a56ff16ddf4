-- An identity leaves a mask. Assumes nothing.
use Rattle.patch.proofs.Folds.{pulled_still}
use Rattle.alive.specs.Masks.{pulled}
use Rattle.shift.proofs.Numbers.{valid_at}
use Rattle.shift.specs.Shifts.{shift_at}
use Rattle.shift.specs.declared.Shift.{Shift}
use native.Mathlib.Omega.{arith}
use mathlib.Core.Path.{ap, ◌∙◌}
use Rattle.patch.proofs.expand.pull.Goals as goal

pub returns-then-s-eq0 : goal.returns-then-s-eq0
returns-then-s-eq0 c = pulled_still (shift_at c.args.s) (valid_at c.args.s c.requires) c.if-s-eq0.true c.args.mask (omega arith)

pub returns : goal.returns
returns c = c.pulled.ensures ∙ ap (λ (x : Shift). pulled x c.args.mask) c.from_index.ensures.0
