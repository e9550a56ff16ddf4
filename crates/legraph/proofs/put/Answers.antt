-- Past the end nothing is stored. Assumes nothing.
use mathlib.Core.Path.{sym}
use Prim.Native.Nat.{ℕ}
use lib.Seq.{set_out}
use Rattle.legraph.proofs.put.Goals as goal

pub returns-else-i-store : goal.returns-else-i-store
returns-else-i-store c = sym (set_out {A = ℕ} c.args.store.now c.args.i c.args.v c.if-i-store.false)
