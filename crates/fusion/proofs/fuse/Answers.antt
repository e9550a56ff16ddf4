-- What the checks refuse is refused; the rest is fused. Assumes nothing.
use Rattle.std.proofs.lemmas.Result.{err_from_is_err_and}
use Rattle.lower.proofs.Refusals.{number_some}
use Rattle.commit_set.proofs.Answers.{slots_few}
use Rattle.fusion.specs.Answer.{told_fused, refused}
use Rattle.fusion.specs.Left.{Lent, lent, input}
use native.Mathlib.Omega.{arith}
use mathlib.Core.Path.{refl, sym}
use Rattle.fusion.proofs.fuse.Goals as goal

pub returns-in_err-check : goal.returns-in_err-check
unfolding told_fused
returns-in_err-check c =
    let l : Lent = lent c.args.old.now c.args.new.now c.args.ands.now c.args.imuls.now c.args.bmuls.now c.args.zeros.now c.args.dsts.now c.args.rhss.now c.args.flags.now in
    let p = err_from_is_err_and c.from_residual.result c.from_residual.ensures.1 in
    rw (p.1, p.2) (refused c.in_err-check.ensures (number_some _) (refl {a = l}))

pub overflow_cast-slots : goal.overflow_cast-slots
overflow_cast-slots c =
    let l : Lent = lent c.args.old.now c.args.new.now c.args.ands.now c.args.imuls.now c.args.bmuls.now c.args.zeros.now c.args.dsts.now c.args.rhss.now c.args.flags.now in
    omega (arith, slots_few c.args.slots c.args.z (input l) (sym c.in_ok-check.ensures))
