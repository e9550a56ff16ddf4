-- Past the end there is no decision, which reads as 0. Assumes nothing.
use mathlib.Core.Path.{sym, ap}
use Prim.Native.Nat.{ℕ}
use lib.Dec.{eqb}
use lib.ListN.{get_or-eq_default}
use Rattle.patch.proofs.expand.is_committed.Goals as goal

pub returns-then-decisions-i : goal.returns-then-decisions-i
returns-then-decisions-i c = ap (λ (x : ℕ). eqb x 0) (sym (get_or-eq_default {A = ℕ} c.args.decisions.now 0 c.if-decisions-i.true))
