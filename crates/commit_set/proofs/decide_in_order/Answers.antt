-- The lists that are made are the system's uses, and the order takes each definition after all that name it. Assumes nothing.
use mathlib.Core.Path.{sym, subst}
use Rattle.lower.specs.Stores.{stores_of, system_in}
use Rattle.commit_set.specs.Answer.{Solution}
use Rattle.commit_set.proofs.Preparing.{ready_made}
use Rattle.commit_set.proofs.decide_in_order.Goals as goal

pub decide_from-requires : goal.decide_from-requires
decide_from-requires c =
    (ready_made c.args.system.now.sizes (stores_of c.args.system.now) c.requires.memory_sound c.requires.once c.args.slots _ _ _ _ _ _
    c.build_use_def.auto.first c.build_use_def.auto.uses c.requires.table_numbered c.build_use_def.ensures c.requires.in_order c.requires.in_bounds).0

pub returns : goal.returns
returns c =
    subst (Solution c.args.slots (system_in c.args.system.now) c.args.decisions.now) (sym c.decide_from.ensures)
    (ready_made c.args.system.now.sizes (stores_of c.args.system.now) c.requires.memory_sound c.requires.once c.args.slots _ _ _ _ _ _
    c.build_use_def.auto.first c.build_use_def.auto.uses c.requires.table_numbered c.build_use_def.ensures c.requires.in_order c.requires.in_bounds).1
