-- Nothing was refused, or something was. Assumes nothing.
use Rattle.std.proofs.Common.{sym, ap, ◌∙◌}
use Rattle.refusal.specs.Refusals.{fault_in}
use Rattle.lower.proofs.Refusals.{number_some}
use Rattle.replay_decision.specs.Replay.{accepted, refusal}
use Rattle.replay_decision.proofs.check_further.Goals as goal

pub returns-in-Ok : goal.returns-in-Ok
returns-in-Ok c = accepted (ap fault_in c.in-Ok.is) c.check_slots-u.ensures c.check_room.ensures

pub returns-in-Err : goal.returns-in-Err
returns-in-Err c = refusal (λ e. number_some _ (sym (ap fault_in c.in-Err.is) ∙ e)) c.check_slots-u.ensures
