-- What is left to make, made from where the walk stands, is the store. Assumes nothing.
use Rattle.std.proofs.Common.{◌-◌, length, sym, ◌∙◌, arith}
use Rattle.replay_house.specs.Replay.{term_made}
use Rattle.replay_house.proofs.Made.{sets-made, sets-none-made, sets_all, made_less, made_first}
use Rattle.replay_house.proofs.limits.fill_terms.Goals as goal

pub loop-i-init : goal.loop-i-init
loop-i-init c = made_first (term_made c.args.wires) c.args.store.now

pub loop-i-preserved : goal.loop-i-preserved
loop-i-preserved c =
    c.loop-i.invariant ∙ sets-made (term_made c.args.wires) c.loop-i.store c.loop-i.i (length c.args.store.now - c.loop-i.i) (omega arith) ∙ rw (c.term_at.ensures, made_less (length c.args.store.now) c.loop-i.i)

pub returns : goal.returns
returns c =
    sym (sym (sets_all (term_made c.args.wires) c.args.store.now) ∙ c.loop-i.invariant ∙ sets-none-made (term_made c.args.wires) c.loop-i.store c.loop-i.i _ (omega arith))
