-- What is left to read has the answer of the whole; each field has three bytes, so the reading ends. Assumes nothing.
use mathlib.Core.Path.{refl, sym, ap, ◌∙◌}
use native.Mathlib.Omega.{arith}
use lib.ListN.{length}
use Rattle.std.specs.Prelude.{Ok}
use Rattle.std.proofs.lemmas.Result.{err_from_is_err_and}
use Rattle.house_file.specs.Reading.{by_number}
use Rattle.house_scan.specs.Parts.{Onward}
use Rattle.house_scan.proofs.Laws.{stands_stop, stands_end, stands_go}
use Rattle.house_scan.proofs.fields.Goals as goal

pub loop-next-init : goal.loop-next-init
loop-next-init c = record { fuel = length c.args.s.now; enough = omega arith; same = refl; small = omega arith; inside = omega arith }

pub returns-in_err-next : goal.returns-in_err-next
returns-in_err-next c =
    let p = err_from_is_err_and c.from_residual.result c.from_residual.ensures.1 in
    rw (p.1, p.2) (stands_stop c.loop-next.invariant _ c.in_err-next.ensures.turn)

pub loop-next-preserved : goal.loop-next-preserved
loop-next-preserved c =
    stands_go c.loop-next.invariant c.in-Some.next (rw c.in-Some.is at c.in_ok-next.ensures.turn) (rw c.in-Some.is at c.in_ok-next.ensures.onward)

pub returns : goal.returns
returns c =
    rw c.sizes.ensures (sym (stands_end c.loop-next.invariant (rw c.in_default.is at c.in_ok-next.ensures.turn)))
