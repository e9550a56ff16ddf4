-- No fault is that all operands are ready; a fault stores nothing. Assumes nothing.
use Rattle.std.proofs.Common.{arith, sym}
use Rattle.evaluate.proofs.Answering.{operands_count, none_memory, none_room, evaluate_refused, evaluate_done}
use Rattle.evaluate.proofs.evaluate.Goals as goal

pub returns-in_err-check : goal.returns-in_err-check
returns-in_err-check c = evaluate_refused _ _ _ _ _ _ c.from_residual.ensures.1 c.in_err-check.ensures

pub put_all-requires : goal.put_all-requires
put_all-requires c = let e = sym c.in_ok-check.ensures in let y = none_memory _ _ _ _ e in record { memory_sound = y; room = omega (arith, none_room _ _ _ _ e, operands_count _ _ y) }

pub returns : goal.returns
returns c = evaluate_done _ _ _ _ c.in_ok-check.ensures _ _ c.put_all.ensures.counted c.put_all.ensures.values_put
