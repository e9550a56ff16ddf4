-- Two runs of stores, the second where the first ends. Assumes nothing.
use Rattle.fusion.proofs.Linear.{add_asks, dsts_closed, rhss_closed}
use Rattle.fusion.proofs.patch_definitions.Goals as goal

pub retain_stranded-stranded-requires : goal.retain_stranded-stranded-requires
retain_stranded-stranded-requires c = (c.requires.dsts_there, c.requires.rhss_there)

pub add_committed-committed-requires : goal.add_committed-committed-requires
add_committed-committed-requires c =
    let a = add_asks c.args.dsts.now c.args.rhss.now c.args.n c.args.wires c.args.decisions.now c.args.table.now c.args.reach.now c.args.list.now c.requires _ _ _ c.retain_stranded-stranded.ensures.dsts_after c.retain_stranded-stranded.ensures.rhss_after c.retain_stranded-stranded.ensures.value in
    record { wires_bound = a.0; dsts_there = a.1.0; rhss_there = a.1.1.0; list_there = a.1.1.1 }

pub returns : goal.returns
returns c =
    let d = dsts_closed c.args.dsts.now c.args.rhss.now c.args.n c.args.wires c.args.decisions.now c.args.table.now c.args.reach.now c.args.list.now c.requires _ _ _ c.retain_stranded-stranded.ensures.dsts_after c.retain_stranded-stranded.ensures.rhss_after c.retain_stranded-stranded.ensures.value _ c.add_committed-committed.ensures.dsts_after in
    let r = rhss_closed c.args.dsts.now c.args.rhss.now c.args.n c.args.wires c.args.decisions.now c.args.table.now c.args.reach.now c.args.list.now c.requires _ _ _ c.retain_stranded-stranded.ensures.dsts_after c.retain_stranded-stranded.ensures.rhss_after c.retain_stranded-stranded.ensures.value _ c.add_committed-committed.ensures.rhss_after in
    record { dsts_after = d; rhss_after = r; stranded = c.retain_stranded-stranded.ensures.value; committed = c.add_committed-committed.ensures.value }
