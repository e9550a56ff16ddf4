-- As it is defined. Assumes nothing.
use Rattle.std.proofs.Common.{sym, ◌∙◌, eq-eqb, ne_eqb}
use Rattle.replay_house.specs.Replay.{term_made}
use Rattle.replay_house.proofs.limits.term_at.Goals as goal

pub returns-then-wires-eq0 : goal.returns-then-wires-eq0
unfolding term_made
returns-then-wires-eq0 c = rw (eq-eqb c.args.wires 0 c.if-wires-eq0.true)

pub returns : goal.returns
unfolding term_made
returns c = c.number.ensures ∙ sym (rw (ne_eqb c.args.wires 0 c.if-wires-eq0.false))
