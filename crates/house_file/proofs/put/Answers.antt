-- Within the list it is a write; past its end the list stays. Assumes nothing.
use lib.Seq.{set_out}
use mathlib.Core.Path.{sym}
use Rattle.house_file.proofs.put.Goals as goal

pub returns-else-at-list : goal.returns-else-at-list
returns-else-at-list g c = sym (set_out c.args.list.now c.args.at c.args.value c.if-at-list.false)
