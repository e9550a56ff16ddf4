-- Every store's front is what the rules say. Assumes nothing.
use Rattle.fusion.proofs.Applying.{extend_asks, lists_asks, definitions_asks, flags_asks, counts_asks, counts_are, left_is}
use Rattle.fusion.specs.Left.{Lent, lent}
use Rattle.fusion.proofs.apply_patches.Goals as goal

pub extend-requires : goal.extend-requires
extend-requires c =
    let l : Lent = lent c.args.old.now c.args.new.now c.args.ands.now c.args.imuls.now c.args.bmuls.now c.args.zeros.now c.args.dsts.now c.args.rhss.now c.args.flags.now in
    extend_asks c.args.z l c.args.decisions.now c.requires.ready c.args.table.now c.args.reach.now c.args.terms.now c.args.list.now c.requires.table_of_definitions c.requires.reach_in c.requires.holds c.requires.room

pub patch_lists-rest-requires : goal.patch_lists-rest-requires
patch_lists-rest-requires c =
    let l : Lent = lent c.args.old.now c.args.new.now c.args.ands.now c.args.imuls.now c.args.bmuls.now c.args.zeros.now c.args.dsts.now c.args.rhss.now c.args.flags.now in
    lists_asks c.args.z l c.args.decisions.now c.requires.ready c.args.table.now c.args.reach.now c.args.terms.now c.args.list.now c.requires.table_of_definitions c.requires.reach_in c.requires.holds c.requires.room

pub patch_definitions-l-requires : goal.patch_definitions-l-requires
patch_definitions-l-requires c =
    let l : Lent = lent c.args.old.now c.args.new.now c.args.ands.now c.args.imuls.now c.args.bmuls.now c.args.zeros.now c.args.dsts.now c.args.rhss.now c.args.flags.now in
    definitions_asks c.args.z l c.args.decisions.now c.requires.ready c.args.table.now c.args.reach.now c.args.terms.now c.args.list.now c.requires.table_of_definitions c.requires.reach_in c.requires.holds c.requires.room _ c.patch_lists-rest.ensures.rest

pub write_flags-requires : goal.write_flags-requires
write_flags-requires c =
    let l : Lent = lent c.args.old.now c.args.new.now c.args.ands.now c.args.imuls.now c.args.bmuls.now c.args.zeros.now c.args.dsts.now c.args.rhss.now c.args.flags.now in
    flags_asks c.args.z l c.args.decisions.now c.requires.ready c.args.table.now c.args.reach.now c.args.terms.now c.args.list.now c.requires.table_of_definitions c.requires.reach_in c.requires.holds c.requires.room

pub count_all-requires : goal.count_all-requires
count_all-requires c =
    let l : Lent = lent c.args.old.now c.args.new.now c.args.ands.now c.args.imuls.now c.args.bmuls.now c.args.zeros.now c.args.dsts.now c.args.rhss.now c.args.flags.now in
    counts_asks c.args.z l c.args.decisions.now c.requires.ready c.args.table.now c.args.reach.now c.args.terms.now c.args.list.now c.requires.table_of_definitions c.requires.reach_in c.requires.holds c.requires.room c.patch_definitions-l.result c.patch_definitions-l.ensures.stranded c.patch_definitions-l.ensures.committed

pub returns : goal.returns
returns c =
    let l : Lent = lent c.args.old.now c.args.new.now c.args.ands.now c.args.imuls.now c.args.bmuls.now c.args.zeros.now c.args.dsts.now c.args.rhss.now c.args.flags.now in
    record { left = left_is c.args.z l c.args.decisions.now c.requires.ready c.args.table.now c.args.reach.now c.args.terms.now c.args.list.now c.requires.table_of_definitions c.requires.reach_in c.requires.holds c.requires.room _ _ _ _ _ _ _ _ _ c.extend.ensures c.patch_lists-rest.ensures.ands_after c.patch_lists-rest.ensures.imuls_after c.patch_lists-rest.ensures.bmuls_after c.patch_lists-rest.ensures.zeros_after c.patch_lists-rest.ensures.rest c.patch_definitions-l.ensures.dsts_after c.patch_definitions-l.ensures.rhss_after c.write_flags.ensures; counts = counts_are c.args.z l c.args.decisions.now c.requires.ready c.args.table.now c.args.reach.now c.args.terms.now c.args.list.now c.requires.table_of_definitions c.requires.reach_in c.requires.holds c.requires.room c.patch_definitions-l.result c.patch_definitions-l.ensures.stranded c.patch_definitions-l.ensures.committed _ c.count_all.ensures }
