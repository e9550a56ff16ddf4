-- The stores are made as they are asked for. Assumes nothing.
use Prim.Native.Nat.{ℕ}
use lib.ListN.{length-replicate}
use Rattle.report.proofs.Coming.{comes_tallied}
use Rattle.report.proofs.answer.Goals as goal

pub returns : goal.returns
returns c = (record { left = _; comes = c.read_and_fuse.ensures }, comes_tallied c.read_and_fuse.ensures (length-replicate {A = ℕ} 4096 0))
