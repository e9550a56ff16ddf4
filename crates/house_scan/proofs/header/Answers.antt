-- Three bytes, the tag, the payload's end: each return is the first test that fails. Assumes nothing.
use Prim.Native.Nat.{◌+◌, ◌≤◌, ◌<◌}
use native.Mathlib.Omega.{arith}
use borrow.Author.Tests.{lt-ltb, le-ltb}
use lib.ListN.{length}
use Rattle.house_file.specs.Decoding.{u16_at}
use Rattle.house_file.specs.Reading.{head_fault}
use Rattle.house_scan.proofs.header.Goals as goal

pub returns-then-s-at-clause-fault : goal.returns-then-s-at-clause-fault
unfolding head_fault
returns-then-s-at-clause-fault c = simp (lt-ltb _ _ c.if-s-at.true)

pub returns-then-tag-low-clause-fault : goal.returns-then-tag-low-clause-fault
unfolding head_fault
returns-then-tag-low-clause-fault c = simp (le-ltb _ _ c.if-s-at.false, lt-ltb _ _ (rw c.byte-tag.ensures.0 at c.if-tag-low.true))

pub returns-then-high-tag-clause-fault : goal.returns-then-high-tag-clause-fault
unfolding head_fault
returns-then-high-tag-clause-fault c = simp (le-ltb _ _ c.if-s-at.false, le-ltb _ _ (rw c.byte-tag.ensures.0 at c.if-tag-low.false), lt-ltb _ _ (rw c.byte-tag.ensures.0 at c.if-high-tag.true))

pub returns-then-s-end-clause-fault : goal.returns-then-s-end-clause-fault
unfolding head_fault
returns-then-s-end-clause-fault c =
    let e : length c.args.s.now < c.args.at + 3 + u16_at c.args.s.now (c.args.at + 1) = omega arith in
    simp (le-ltb _ _ c.if-s-at.false, le-ltb _ _ (rw c.byte-tag.ensures.0 at c.if-tag-low.false), le-ltb _ _ (rw c.byte-tag.ensures.0 at c.if-high-tag.false), lt-ltb _ _ e)

pub returns-clause-fault : goal.returns-clause-fault
unfolding head_fault
returns-clause-fault c =
    let e : c.args.at + 3 + u16_at c.args.s.now (c.args.at + 1) ≤ length c.args.s.now = omega arith in
    simp (le-ltb _ _ c.if-s-at.false, le-ltb _ _ (rw c.byte-tag.ensures.0 at c.if-tag-low.false), le-ltb _ _ (rw c.byte-tag.ensures.0 at c.if-high-tag.false), le-ltb _ _ e)

pub returns-clause-head : goal.returns-clause-head
returns-clause-head c = record { tag_is = c.byte-tag.ensures.0; end_is = omega arith; after = omega arith; inside = omega arith }
