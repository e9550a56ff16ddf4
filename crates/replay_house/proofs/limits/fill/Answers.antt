-- Store by store. Assumes nothing.
use Rattle.replay_house.proofs.limits.fill.Goals as goal

pub returns : goal.returns
returns c = (c.fill_terms.ensures, (c.fill_operands.ensures, (c.fill_operands-2.ensures, (c.fill_operands-3.ensures, (c.fill_operands-4.ensures, (c.fill_wires.ensures, c.fill_operands-5.ensures))))))
