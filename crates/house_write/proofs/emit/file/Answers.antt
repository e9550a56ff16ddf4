-- The wire count's field, the lists, the end field. Assumes nothing.
use mathlib.Core.Path.{sym, ◌∙◌}
use native.Mathlib.Omega.{arith}
use Rattle.house_file.specs.Format.{entries_of, file_of}
use Rattle.lower.specs.Stores.{stores_of, system_of, system_in}
use Rattle.lower.proofs.Checks.{memory_wires}
use Rattle.house_write.specs.Write.{MAX_WRITTEN_TERMS}
use Rattle.house_write.proofs.Storing.{sets_file, file_ends}
use Rattle.house_write.proofs.emit.file.Goals as goal

pub put16-requires : goal.put16-requires
put16-requires c =
    omega (arith, memory_wires MAX_WRITTEN_TERMS c.args.system.now.sizes (stores_of c.args.system.now) c.requires.0)

pub returns : goal.returns
unfolding file_of system_of
returns c =
    let wires = c.args.system.now.sizes.wires in
    let es = entries_of (system_in c.args.system.now) in (
      omega (arith, c.lists-p.ensures.0, file_ends wires es),
      c.head-2.ensures ∙ rw (c.lists-p.ensures.1.1, c.put16.ensures, c.head.ensures) (sym (sets_file c.args.out.now wires _ es c.lists-p.ensures.0)),
    )
