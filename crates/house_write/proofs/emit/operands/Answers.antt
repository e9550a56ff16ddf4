-- What is left to store, stored from where the walk stands, makes the bytes that are asked for. Assumes nothing.
use Rattle.lower.specs.Faults.{length_of}
use Rattle.house_write.proofs.Counting.{size_step, size_none}
use Rattle.house_write.proofs.Storing.{all_at, operand_bytes_lem, sets_operands, sets_no_operands}
use mathlib.Core.Path.{◌≡◌, sym, ◌∙◌, refl}
use Prim.Native.Nat.{◌+◌, ◌<◌}
use native.Mathlib.Omega.{arith}
use lib.ListN.{length, get_or}
use Rattle.house_file.specs.Format.{operand_bytes}
use Rattle.operand.specs.Numbers.{operand_of}
use Rattle.house_write.proofs.emit.operands.Goals as goal

pub operand-q-requires : goal.operand-q-requires
operand-q-requires c =
    let y = all_at c.args.hs.now c.loop-h.h-index c.requires.operands_fit.0 c.loop-h-test.true in
    let s = size_step c.args.hs.now c.loop-h.h-index c.loop-h-test.true in
    let k : length_of (get_or c.args.hs.now c.loop-h.h-index 0) < 65536 = omega (arith, c.loop-h.invariant.place, c.loop-h.invariant.later, c.requires.operands_fit.1, s) in
    (y, (k, omega (arith, c.loop-h.invariant.place, c.requires.place, c.requires.operands_fit.1)))

pub loop-h-preserved : goal.loop-h-preserved
loop-h-preserved c =
    let stores = c.args.stores.now in
    let f = operand_of stores.old.now stores.new.now in
    let h = get_or c.args.hs.now c.loop-h.h-index 0 in
    let y = all_at c.args.hs.now c.loop-h.h-index c.requires.operands_fit.0 c.loop-h-test.true in
    let s = size_step c.args.hs.now c.loop-h.h-index c.loop-h-test.true in
    let e : c.loop-h.q + length (operand_bytes (f h)) ≡ c.operand-q.result = omega (arith, c.operand-q.ensures.0, operand_bytes_lem stores.old.now stores.new.now h y.stands) in
    record {
      bytes = c.loop-h.invariant.bytes ∙ sets_operands f c.args.hs.now c.loop-h.h-index c.loop-h-test.true c.loop-h.out c.loop-h.q c.operand-q.result e ∙ rw c.operand-q.ensures.1;
      place = omega (arith, c.loop-h.invariant.place, c.operand-q.ensures.0, s);
      later = omega (arith, c.loop-h.invariant.later, c.operand-q.ensures.0);
    }

pub returns : goal.returns
returns c = (
  omega (arith, c.loop-h.invariant.place, size_none c.args.hs.now c.loop-h.h-index c.loop-h-test.false),
  sym (c.loop-h.invariant.bytes ∙ sets_no_operands (operand_of c.args.stores.now.old.now c.args.stores.now.new.now) c.args.hs.now c.loop-h.h-index c.loop-h-test.false c.loop-h.out c.loop-h.q),
)
