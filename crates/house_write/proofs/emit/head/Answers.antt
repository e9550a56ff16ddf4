-- The tag, then the length. Assumes nothing.
use mathlib.Core.Path.{◌∙◌}
use native.Mathlib.Numerals.{add-one}
use Rattle.house_write.proofs.emit.head.Goals as goal

pub returns : goal.returns
returns c = c.put16.ensures ∙ rw (c.put.ensures, add-one)
