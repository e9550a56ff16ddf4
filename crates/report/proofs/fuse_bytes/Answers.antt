-- The stores are made as they are asked for. Assumes nothing.
use native.Mathlib.Omega.{arith}
use Prim.Native.Nat.{ℕ}
use lib.ListN.{length-replicate}
use Rattle.std.proofs.lemmas.Result.{err_from_is_err_and}
use Rattle.report.specs.File.{after, refused, fused}
use Rattle.report.proofs.Coming.{comes_tallied}
use Rattle.report.proofs.fuse_bytes.Goals as goal

pub returns-in_err-fused : goal.returns-in_err-fused
returns-in_err-fused c =
    let p = err_from_is_err_and c.from_residual.result c.from_residual.ensures.1 in
    rw (p.1, p.2) (record { outcome = _; left = _; comes = c.in_err-fused.ensures; writes = refused })

pub sizes_after-requires : goal.sizes_after-requires
sizes_after-requires c = (comes_tallied c.in_ok-fused.ensures (length-replicate {A = ℕ} 4096 0)).0

pub write_fused-requires : goal.write_fused-requires
unfolding after
write_fused-requires c =
    (rw c.sizes_after.ensures (comes_tallied c.in_ok-fused.ensures (length-replicate {A = ℕ} 4096 0)).1, omega (arith, c.read_and_fuse.auto, length-replicate {A = ℕ} 4096 0))

pub returns : goal.returns
returns c = record { outcome = _; left = _; comes = c.in_ok-fused.ensures; writes = fused (rw c.sizes_after.ensures at c.write_fused.ensures) }
