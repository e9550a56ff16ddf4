-- Eight bytes. Assumes nothing.
use Rattle.std.proofs.Common.{le-ltb, lt-ltb}
use Rattle.replay_lower.proofs.word.Goals as goal

pub returns-then-input-i : goal.returns-then-input-i
returns-then-input-i c = rw (le-ltb _ _ c.if-input-i.true)

pub returns : goal.returns
returns c = rw (lt-ltb _ _ c.if-input-i.false, ← c.byte.ensures.0, ← c.byte-2.ensures.0, ← c.byte-3.ensures.0, ← c.byte-4.ensures.0, ← c.byte-5.ensures.0, ← c.byte-6.ensures.0, ← c.byte-7.ensures.0, ← c.byte-8.ensures.0)
