-- What is added so far and what is left are the whole. Assumes nothing.
use Rattle.apply.proofs.Definitions.{wires_none, wires_count, dst_step, rhs_step}
use Rattle.apply.specs.Applied.{is_committed, committed_wires}
use lib.Seq.{sets}
use lib.ListN.{length, get_or, take, drop}
use native.Mathlib.Omega.{arith}
use Prim.Native.Nat.{ℕ, ◌+◌, ◌-◌}
use mathlib.Core.Path.{◌≡◌, ap, ◌∙◌}
use Rattle.apply.proofs.add_committed.Goals as goal

pub add_definition-n-requires : goal.add_definition-n-requires
add_definition-n-requires c = let n = wires_count c.args.table.now c.args.decisions.now c.loop-w.w c.args.wires c.loop-w-test.true in
    record {
      dsts_there = omega (arith, n, c.loop-w.auto.dsts, c.loop-w.invariant.0, c.requires.dsts_there);
      rhss_there = omega (arith, n, c.loop-w.auto.rhss, c.loop-w.invariant.0, c.requires.rhss_there);
      list_there = omega (arith, n, c.loop-w.invariant.0, c.requires.list_there);
    }

pub loop-w-preserved : goal.loop-w-preserved
loop-w-preserved c =
    let n = wires_count c.args.table.now c.args.decisions.now c.loop-w.w c.args.wires c.loop-w-test.true in
    let left = length (committed_wires c.args.table.now c.args.decisions.now (c.loop-w.w + 1) (c.args.wires - (c.loop-w.w + 1))) in
    let a : c.args.at + (c.loop-w.n + c.add_definition-n.result) ≡ c.args.at + c.loop-w.n + c.add_definition-n.result = omega arith in
    let g : c.add_definition-n.result + left ≡ length (committed_wires c.args.table.now c.args.decisions.now c.loop-w.w (c.args.wires - c.loop-w.w)) = omega (arith, n, c.add_definition-n.ensures.value) in (
      omega (arith, n, c.add_definition-n.ensures.value, c.loop-w.invariant.0),
      rw a (dst_step c.args.table.now c.args.decisions.now c.loop-w.w c.args.wires c.loop-w-test.true c.loop-w.dsts _ (c.args.at + c.loop-w.n) c.add_definition-n.result c.add_definition-n.ensures.value c.add_definition-n.ensures.dsts_after) ∙ c.loop-w.invariant.1,
      rw a (rhs_step (is_committed c.args.decisions.now (get_or c.args.table.now c.loop-w.w 0)) c.args.list.now c.loop-w.n c.add_definition-n.result left c.loop-w.w c.add_definition-n.ensures.value (omega (arith, n, c.add_definition-n.ensures.value, c.loop-w.invariant.0, c.requires.list_there)) c.loop-w.rhss _ (c.args.at + c.loop-w.n) c.add_definition-n.ensures.rhss_after)
          ∙ ap (λ (j : ℕ). sets c.loop-w.rhss (c.args.at + c.loop-w.n) (take j (drop c.loop-w.n c.args.list.now))) g ∙ c.loop-w.invariant.2,
    )

pub returns : goal.returns
returns c = let z = wires_none c.args.table.now c.args.decisions.now c.loop-w.w c.args.wires c.loop-w-test.false in
    record {
      dsts_after = rw z at c.loop-w.invariant.1;
      rhss_after = rw z at c.loop-w.invariant.2;
      value = omega (arith, c.loop-w.invariant.0, ap length z);
    }
