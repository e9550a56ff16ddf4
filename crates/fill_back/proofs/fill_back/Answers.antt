-- A fault is a refusal, and what has none is filled back. Assumes nothing.
use Rattle.fill_back.proofs.Running.{refused_exit}
use Rattle.fill_back.proofs.fill_back.Goals as goal

pub returns-in_err-check_all : goal.returns-in_err-check_all
returns-in_err-check_all c = refused_exit _ _ _ _ _ _ c.from_residual.ensures.1 c.in_err-check_all.ensures
