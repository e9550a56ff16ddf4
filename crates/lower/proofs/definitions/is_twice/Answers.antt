-- A wire met before is marked: some wire that is left is marked, or stands twice in what is left. Assumes nothing.
use Rattle.std.proofs.Common.{arith, ◌≡◌, sym, ◌∙◌, ℕ, ◌<◌, length, false, get_or, length-set}
use Rattle.std.proofs.lemmas.List.{length-replicate}
use borrow.Author.Tests.{eq-eqb}
use Rattle.lower.specs.Tables.{marked}
use Rattle.lower.proofs.Somes.{again_go, again_none}
use Rattle.lower.proofs.Firsts.{drop_step, all_at}
use Rattle.lower.proofs.definitions.is_twice.Goals as goal

pub loop-d-init : goal.loop-d-init
loop-d-init c = (length-replicate {A = ℕ} 4096 0, sym (again_none 4096 c.args.dsts.now))

pub bounds-met-d : goal.bounds-met-d
bounds-met-d c = all_at c.args.dsts.now _ 0 c.requires c.loop-d-test.true

pub bounds-met-d-in-loop-d : goal.bounds-met-d-in-loop-d
bounds-met-d-in-loop-d c = all_at c.args.dsts.now _ 0 c.requires c.loop-d-test.true

pub loop-d-preserved : goal.loop-d-preserved
loop-d-preserved c = let d = get_or c.args.dsts.now c.loop-d.d-index 0 in
    let inside : d < length c.loop-d.met = omega (arith, all_at c.args.dsts.now c.loop-d.d-index 0 c.requires c.loop-d-test.true, c.loop-d.invariant.0) in
    let m : marked c.loop-d.met d ≡ false = rw (eq-eqb _ _ c.if-met-d-ne0.false) in
    (length-set c.loop-d.met d 1 ∙ c.loop-d.invariant.0, c.loop-d.invariant.1 ∙ again_go c.loop-d.met c.args.dsts.now c.loop-d.d-index d (drop_step c.args.dsts.now c.loop-d.d-index 0 c.loop-d-test.true) inside m)
