-- The two ways of the definition, room or none, by one number. Assumes nothing.
use native.Mathlib.Omega.{arith}
use Rattle.patch.proofs.Spells.{below_full, below_room}
use Rattle.patch.specs.Spelling.{spelt_to}
use Rattle.operand.proofs.Stored.{term_back}
use Rattle.operand.specs.Numbers.{term_of}
use lib.ListN.{set}
use Prim.Native.Nat.{ℕ, ◌+◌}
use mathlib.Core.Path.{ap, sym, ◌∙◌}
use Rattle.patch.proofs.expand.put_below.Goals as goal

pub returns-then-end-n : goal.returns-then-end-n
returns-then-end-n c = (below_full (term_of c.args.t) c.args.out.now c.args.n c.if-end-n.true, omega arith)

pub returns : goal.returns
returns c = (
  ap (λ (v : ℕ). spelt_to (set c.args.out.now c.args.n v) (c.args.n + 1)) (sym (term_back c.args.t)) ∙ below_room (term_of c.args.t) c.args.out.now c.args.n c.if-end-n.false,
  omega (arith, c.if-end-n.false),
)
