-- After each definition the lists are what is kept so far, written over the lists at the entry. Assumes nothing.
use Rattle.apply.proofs.Definitions.{keep-none, keep_low, keep_step, keep_count}
use Rattle.apply.specs.Applied.{is_stranded}
use lib.Seq.{sets}
use lib.ListN.{length}
use native.Mathlib.Omega.{arith}
use Prim.Native.Nat.{◌<◌}
use mathlib.Core.Path.{sym, ap}
use Rattle.apply.proofs.retain_stranded.Goals as goal

pub loop-i-init : goal.loop-i-init
loop-i-init c = let q = is_stranded c.args.decisions.now c.args.reach.now in let d = keep-none q c.args.dsts.now in let h = keep-none q c.args.rhss.now in
    (sym (ap (sets c.args.dsts.now 0) d), sym (ap (sets c.args.rhss.now 0) h), sym (ap length d), sym (ap length h))

pub keep_definition-at-requires : goal.keep_definition-at-requires
keep_definition-at-requires c = let q = is_stranded c.args.decisions.now c.args.reach.now in
    (keep_low q c.args.dsts.now c.loop-i.i c.loop-i.at (omega (arith, c.loop-i-test.true, c.requires.0)) c.loop-i.invariant.2, omega (arith, c.loop-i-test.true, c.requires.0, c.loop-i.auto.dsts), omega (arith, c.loop-i-test.true, c.requires.1, c.loop-i.auto.rhss))

pub loop-i-preserved : goal.loop-i-preserved
loop-i-preserved c = let q = is_stranded c.args.decisions.now c.args.reach.now in
    let a : c.loop-i.i < length c.args.dsts.now = omega (arith, c.loop-i-test.true, c.requires.0) in
    let b : c.loop-i.i < length c.args.rhss.now = omega (arith, c.loop-i-test.true, c.requires.1) in (
      keep_step q c.args.dsts.now c.loop-i.i c.loop-i.at a c.loop-i.invariant.2 c.loop-i.dsts _ c.loop-i.invariant.0 c.keep_definition-at.ensures.dsts_after,
      keep_step q c.args.rhss.now c.loop-i.i c.loop-i.at b c.loop-i.invariant.3 c.loop-i.rhss _ c.loop-i.invariant.1 c.keep_definition-at.ensures.rhss_after,
      keep_count q c.args.dsts.now c.loop-i.i c.loop-i.at a c.loop-i.invariant.2 _ c.loop-i.i c.keep_definition-at.ensures.value,
      keep_count q c.args.rhss.now c.loop-i.i c.loop-i.at b c.loop-i.invariant.3 _ c.loop-i.i c.keep_definition-at.ensures.value,
    )
