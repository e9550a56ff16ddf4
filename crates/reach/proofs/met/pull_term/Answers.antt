-- The bits of the term's wire that its shift moves into the mask are joined to those there. Assumes nothing.
use Rattle.reach.proofs.Pulling.{pull_is}
use Rattle.alive.specs.Masks.{pulled}
use Rattle.shift.specs.Shifts.{valid_number, shift_at}
use Prim.Native.Nat.{ℕ}
use mathlib.Core.Path.{ap, ◌∙◌}
use Rattle.reach.proofs.met.pull_term.Goals as goal

pub pull-p-requires : goal.pull-p-requires
pull-p-requires c = ap valid_number c.inner.ensures ∙ c.requires.1

pub returns : goal.returns
returns c = pull_is c.args.t c.args.m _ c.pull-p.result c.args.masks.now c.wire-w.ensures (c.pull-p.ensures ∙ ap (λ (n : ℕ). pulled (shift_at n) c.args.m) c.inner.ensures)
