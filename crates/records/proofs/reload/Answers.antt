-- One more record. Assumes nothing.
use Rattle.std.proofs.Common.{◌≡◌, ◌+◌, List, length, get_or, refl, sym, ap, ◌∙◌, arith}
use lib.ListN.{set}
use Rattle.records.specs.Records.{reloaded}
use Rattle.records.specs.declared.Definition.{Definition}
use Rattle.records.proofs.Laws.{back_none, back_more}
use Rattle.records.proofs.reload.Goals as goal

pub loop-k-init : goal.loop-k-init
loop-k-init c = sym (back_none c.args.defs.now c.args.dsts.now c.args.rhss.now)

pub loop-k-preserved : goal.loop-k-preserved
loop-k-preserved c =
    let ds = c.args.dsts.now in
    let rs = c.args.rhss.now in
    let k = c.loop-k.k in
    ap (λ (l : List Definition). set l k (record { rhs = get_or rs k 0; dst = get_or ds k 0 })) c.loop-k.invariant
    ∙ back_more c.args.defs.now ds rs k (k + 1) (omega arith) (omega arith) refl

pub returns : goal.returns
returns c = let e : c.loop-k.k ≡ length c.args.dsts.now = omega arith in c.loop-k.invariant ∙ ap (reloaded c.args.defs.now c.args.dsts.now c.args.rhss.now) e
