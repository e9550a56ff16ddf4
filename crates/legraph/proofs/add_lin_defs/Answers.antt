-- The table with the definitions from the last one on is the whole. Assumes nothing.
use Rattle.std.proofs.Common.{arith, ◌≡◌, sym, ◌+◌, ◌-◌}
use lib.Seq.{drop-length}
use Rattle.lower.proofs.Firsts.{all_at}
use Rattle.legraph.specs.Tables.{numbered}
use Rattle.legraph.proofs.Laws.{numbered_back}
use Rattle.legraph.proofs.add_lin_defs.Goals as goal

pub loop-i-init : goal.loop-i-init
unfolding numbered
loop-i-init c = rw (drop-length c.args.dsts.now)

pub bounds-table-dsts : goal.bounds-table-dsts
bounds-table-dsts c = omega (arith, all_at c.args.dsts.now (c.loop-i.i - 1) 0 c.requires.1 (omega arith), c.loop-i.auto.table)

pub loop-i-preserved : goal.loop-i-preserved
loop-i-preserved c = let e : c.loop-i.i - 1 + 1 ≡ c.loop-i.i = omega arith in
    rw (e, c.loop-i.invariant) (sym (numbered_back c.args.table.now c.args.dsts.now c.loop-i.i (omega arith) (omega arith)))
