-- Within the input it is the byte there; past the end the list reads as 0. Assumes nothing.
use mathlib.Core.Path.{sym}
use lib.ListN.{get_or-eq_default}
use native.Mathlib.Omega.{arith}
use Rattle.house_file.proofs.byte.Goals as goal

pub returns-else-at-s : goal.returns-else-at-s
returns-else-at-s c = (sym (get_or-eq_default c.args.s.now 0 (omega arith)), omega arith)
