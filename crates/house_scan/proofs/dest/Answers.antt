-- Only a Linear has a destination; each return is one test of it. Assumes nothing.
use Prim.Native.Nat.{◌≤◌, ◌<◌}
use native.Mathlib.Omega.{arith}
use borrow.Author.Tests.{lt-ltb, le-ltb, eq-eqb, ne_eqb}
use Rattle.house_file.specs.Decoding.{u16_at, operands_start}
use Rattle.house_file.specs.Reading.{destination_fault}
use Rattle.house_scan.proofs.dest.Goals as goal

pub returns-then-tag-ne-LINEAR-clause-fault : goal.returns-then-tag-ne-LINEAR-clause-fault
unfolding destination_fault
returns-then-tag-ne-LINEAR-clause-fault c = simp (ne_eqb _ _ c.if-tag-ne-LINEAR.true)

pub returns-then-tag-ne-LINEAR-clause-start : goal.returns-then-tag-ne-LINEAR-clause-start
unfolding operands_start
returns-then-tag-ne-LINEAR-clause-start c = record { is = simp (ne_eqb _ _ c.if-tag-ne-LINEAR.true); later = omega arith; inside = omega arith }

pub returns-then-end-at-clause-fault : goal.returns-then-end-at-clause-fault
unfolding destination_fault
returns-then-end-at-clause-fault c = simp (eq-eqb _ _ c.if-tag-ne-LINEAR.false, lt-ltb _ _ c.if-end-at.true)

pub returns-then-wires-num-clause-fault : goal.returns-then-wires-num-clause-fault
unfolding destination_fault
returns-then-wires-num-clause-fault c =
    let h : c.args.wires ≤ u16_at c.args.s.now c.args.at = omega arith in
    simp (eq-eqb _ _ c.if-tag-ne-LINEAR.false, le-ltb _ _ c.if-end-at.false, le-ltb _ _ h)

pub returns-clause-fault : goal.returns-clause-fault
unfolding destination_fault
returns-clause-fault c =
    let h : u16_at c.args.s.now c.args.at < c.args.wires = omega arith in
    simp (eq-eqb _ _ c.if-tag-ne-LINEAR.false, le-ltb _ _ c.if-end-at.false, lt-ltb _ _ h)

pub returns-clause-start : goal.returns-clause-start
unfolding operands_start
returns-clause-start c = record { is = simp (eq-eqb _ _ c.if-tag-ne-LINEAR.false); later = omega arith; inside = omega arith }
