-- Another answer, none, or a refusal. Assumes nothing.
use Rattle.std.proofs.Common.{sym, ◌∙◌}
use Rattle.replay_decision.proofs.Alike.{alike, ok_none, err_some}
use Rattle.replay_decision.proofs.Calls.{another, accepted, kept}
use Rattle.replay_decision.proofs.answers.Goals as goal

pub returns-then-is_ok : goal.returns-then-is_ok
returns-then-is_ok c = record {
  left = _;
  answer = _;
  decides = c.decide-answer.ensures;
  right = accepted _ _ _ _ (sym (alike c.decide-answer.result c.args.expected) ∙ sym c.eq.ensures ∙ c.if-eq.true) (ok_none _ (sym c.is_ok.ensures.value ∙ c.if-is_ok.true)) c.if-is_ok.true;
}

pub returns-else-is_ok : goal.returns-else-is_ok
returns-else-is_ok c = record {
  left = _;
  answer = _;
  decides = c.decide-answer.ensures;
  right = kept _ _ _ _ (sym (alike c.decide-answer.result c.args.expected) ∙ sym c.eq.ensures ∙ c.if-eq.true) (err_some _ (sym c.is_ok.ensures.value ∙ c.if-is_ok.false)) c.untouched.ensures;
}

pub returns-else-eq : goal.returns-else-eq
returns-else-eq c = record {
  left = _;
  answer = _;
  decides = c.decide-answer.ensures;
  right = another _ _ _ _ (sym (alike c.decide-answer.result c.args.expected) ∙ sym c.eq.ensures ∙ c.if-eq.false) c.if-eq.false;
}
