-- One call, and a second where terms are written. Assumes nothing.
use Rattle.std.proofs.Common.{arith}
use Rattle.replay_fuse.specs.Further.{empty, exact}
use Rattle.replay_fuse.proofs.further.check_new.Goals as goal

pub returns-then-exact-eq0 : goal.returns-then-exact-eq0
returns-then-exact-eq0 c = rw c.with_check-u.ensures (empty c.if-exact-eq0.true c.again-enough.ensures)

pub returns : goal.returns
returns c = rw (c.with_check.ensures, c.with_check-u.ensures) (exact (omega arith) c.again-enough.ensures c.refused-short.ensures)
