-- Two calls, where there is a wire. Assumes nothing.
use Rattle.std.proofs.Common.{arith}
use Rattle.replay_fuse.specs.Further.{nothing, both}
use Rattle.replay_fuse.proofs.further.check_flags.Goals as goal

pub returns-then-wires-eq0 : goal.returns-then-wires-eq0
returns-then-wires-eq0 c = rw c.with_check.ensures (nothing c.if-wires-eq0.true)

pub returns : goal.returns
returns c = rw (c.with_check-3.ensures, c.with_check-2.ensures) (both (omega arith) c.again-enough.ensures c.refused-short.ensures)
