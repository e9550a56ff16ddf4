-- Some operand of all is some operand of those that are left. Assumes nothing.
use mathlib.Core.Path.{sym, ◌∙◌}
use lib.ListN.{get_or, drop_of_length-le}
use Rattle.patch.specs.Spelling.{names_one, row_names}
use Rattle.operand.specs.Numbers.{operand_of}
use Rattle.commit_set.proofs.Members.{all_get}
use Rattle.lower.specs.Stores.{Stands}
use Rattle.lower.proofs.Firsts.{drop_step}
use Rattle.lower.proofs.Somes.{some_stop, some_go, some-map}
use Rattle.patch.proofs.rebuild.row_names.Goals as goal

pub loop-h-init : goal.loop-h-init
unfolding row_names
loop-h-init c = some-map (names_one c.args.table.now) (operand_of c.args.stores.now.old.now c.args.stores.now.new.now) c.args.row.now

pub operand_names-requires : goal.operand_names-requires
operand_names-requires c = all_get (Stands c.args.stores.now.old.now c.args.stores.now.new.now) c.args.row.now c.loop-h.h-index 0 c.requires c.loop-h-test.true

pub returns-then-operand_names : goal.returns-then-operand_names
returns-then-operand_names c = let h = get_or c.args.row.now c.loop-h.h-index 0 in
    sym (c.loop-h.invariant ∙ some_stop _ c.args.row.now c.loop-h.h-index h (drop_step c.args.row.now c.loop-h.h-index 0 c.loop-h-test.true) (sym c.operand_names.ensures ∙ c.if-operand_names.true))

pub loop-h-preserved : goal.loop-h-preserved
loop-h-preserved c = let h = get_or c.args.row.now c.loop-h.h-index 0 in
    c.loop-h.invariant ∙ some_go _ c.args.row.now c.loop-h.h-index h (drop_step c.args.row.now c.loop-h.h-index 0 c.loop-h-test.true) (sym c.operand_names.ensures ∙ c.if-operand_names.false)

pub returns : goal.returns
returns c = sym (c.loop-h.invariant ∙ rw (drop_of_length-le c.args.row.now c.loop-h-test.false))
