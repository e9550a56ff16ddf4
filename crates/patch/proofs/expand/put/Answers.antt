-- The two ways of the definition, room or none. Assumes nothing.
use Rattle.patch.proofs.Spells.{put_full, put_room}
use Rattle.patch.specs.Steps.{wrote}
use Rattle.operand.proofs.Stored.{term_back}
use Rattle.operand.specs.Numbers.{term_of}
use lib.ListN.{set}
use Prim.Native.Nat.{ℕ, ◌+◌}
use mathlib.Core.Bool.{false}
use mathlib.Core.List.{[]}
use mathlib.Core.Path.{ap, sym, ◌∙◌}
use native.Mathlib.Omega.{arith}
use Rattle.patch.proofs.expand.put.Goals as goal

pub returns-then-out-n : goal.returns-then-out-n
returns-then-out-n c = (put_full (term_of c.args.t) c.args.out.now c.args.c.count c.args.c.full c.requires.0 c.if-out-n.true, omega arith)

pub returns : goal.returns
returns c = (
  ap (λ (v : ℕ). wrote (set c.args.out.now c.args.c.count v) (c.args.c.count + 1) [] false) (sym (term_back c.args.t))
      ∙ put_room (term_of c.args.t) c.args.out.now c.args.c.count c.args.c.full c.requires.0 c.if-out-n.false,
  omega arith,
)
