-- The low byte, then the high one. Assumes nothing.
use mathlib.Core.Path.{◌∙◌}
use native.Mathlib.Numerals.{add-one}
use Rattle.house_write.proofs.emit.put16.Goals as goal

pub returns : goal.returns
returns c = c.put-2.ensures ∙ rw (c.put.ensures, add-one)
