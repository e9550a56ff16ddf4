-- The wires that are left are all wires. Assumes nothing.
use Rattle.patch.proofs.Builds.{commits_end, commits_step}
use Rattle.patch.specs.Building.{Built, built_by, build_all, commits_in}
use Rattle.patch.specs.Spelling.{Source, source_of, spell}
use Rattle.patch.specs.Steps.{Written}
use Rattle.operand.specs.Numbers.{Term}
use native.Mathlib.Omega.{arith}
use Prim.Native.Nat.{ℕ, ◌+◌, ◌-◌}
use mathlib.Core.Path.{◌≡◌, refl, sym, ap, ◌∙◌}
use Rattle.patch.proofs.build.build_commits.Goals as goal

pub loop-w-init : goal.loop-w-init
loop-w-init c = let q : Source = source_of c.args.source.now in let go : Term → Written → Written = spell q c.args.below in let z : Built = built_by c.args.out.now c.args.list.now c.args.progress in let e : c.args.wires - 0 ≡ c.args.wires = omega arith in (omega arith, refl, c.requires.commits_there.1.0, ap (λ (j : ℕ). build_all go (commits_in q 0 j) z) e, refl)

pub overflow_cast-w : goal.overflow_cast-w
overflow_cast-w c = omega (arith, c.loop-w-test.true, c.requires.commits_there.2)

pub build_committed-cur-requires : goal.build_committed-cur-requires
build_committed-cur-requires c = record { ready = c.requires.ready; commits_there = (c.requires.commits_there.0, (omega (arith, c.loop-w.invariant.1, c.loop-w.invariant.2), omega (arith, c.loop-w.invariant.1, c.requires.commits_there.1.1))) }

pub loop-w-preserved : goal.loop-w-preserved
loop-w-preserved c = let q : Source = source_of c.args.source.now in let go : Term → Written → Written = spell q c.args.below in let y : Built = built_by c.loop-w.out c.loop-w.list c.loop-w.cur in (
  omega (arith, c.loop-w-test.true),
  omega arith,
  omega (arith, c.build_committed-cur.ensures.1, c.loop-w.invariant.1),
  ap (build_all go (commits_in q (c.loop-w.w + 1) (c.args.wires - (c.loop-w.w + 1)))) c.build_committed-cur.ensures.0 ∙ sym (commits_step go q c.loop-w.w c.args.wires y c.loop-w-test.true) ∙ c.loop-w.invariant.3,
  omega arith,
)

pub returns : goal.returns
returns c = let q : Source = source_of c.args.source.now in let go : Term → Written → Written = spell q c.args.below in let y : Built = built_by c.loop-w.out c.loop-w.list c.loop-w.cur in
    (sym (commits_end go q c.loop-w.w c.args.wires y c.loop-w-test.false) ∙ c.loop-w.invariant.3, c.loop-w.invariant.2)
