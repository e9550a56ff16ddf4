-- The constraints, then the committed definitions. Assumes nothing.
use Rattle.patch.proofs.Builds.{operands_are}
use Rattle.patch.specs.Building.{built, build_all, commits_in}
use Rattle.patch.specs.Spelling.{Source, source_in, spell}
use Rattle.patch.specs.Steps.{Written, wrote}
use mathlib.Core.Bool.{false}
use Rattle.operand.specs.Numbers.{Term}
use native.Mathlib.Omega.{arith}
use mathlib.Core.List.{[]}
use mathlib.Core.Path.{sym, ap, ◌∙◌}
use Rattle.patch.proofs.build.build.Goals as goal

pub build_commits-requires : goal.build_commits-requires
build_commits-requires c =
    record { ready = c.requires.buildable.ready; commits_there = (c.requires.buildable.commits_there, (omega (arith, c.build_root_patches-roots.ensures.1), omega (arith, c.requires.room)), c.requires.buildable.wires_few) }

pub returns : goal.returns
returns c = let q : Source = source_in c.args.system.now c.args.table.now c.args.decisions.now c.args.alive.now in let go : Term → Written → Written = spell q c.args.system.now.sizes.linears in (
  c.build_commits.ensures.0
      ∙ ap (build_all go (commits_in q 0 c.args.system.now.sizes.wires)) c.build_root_patches-roots.ensures.0
      ∙ sym (operands_are go q c.args.system.now.sizes c.args.system.now.ands.now c.args.system.now.imuls.now c.args.system.now.bmuls.now c.args.system.now.zeros.now (built (wrote c.args.out.now 0 [] false) c.args.list.now 0)),
  omega (arith, c.build_commits.ensures.1),
)
