-- The head, the destination, the right side. Assumes nothing.
use mathlib.Core.Path.{◌≡◌, ◌∙◌, sym, ap}
use Prim.Native.Nat.{◌+◌, ◌*◌}
use native.Mathlib.Omega.{arith}
use lib.ListN.{length}
use Rattle.lower.specs.Faults.{length_of}
use Rattle.operand.specs.declared.WireOperand.{WireOperand}
use Rattle.operand.specs.Numbers.{operand_of}
use Rattle.house_file.specs.Format.{operand_bytes}
use Rattle.house_write.proofs.Storing.{operand_bytes_lem, sets_definition}
use Rattle.house_write.proofs.emit.definition.Goals as goal

pub head-requires : goal.head-requires
head-requires c =
    let n : c.len.result ≡ length_of c.args.h = c.len.ensures ∙ ap (λ (o : WireOperand). o.len) c.from_number-o.ensures in
    omega (arith, n, c.requires)

pub returns : goal.returns
returns c =
    let s = c.args.stores.now in
    let n : c.len.result ≡ length_of c.args.h = c.len.ensures ∙ ap (λ (o : WireOperand). o.len) c.from_number-o.ensures in
    let f = operand_of s.old.now s.new.now c.args.h in
    let e : 2 + length (operand_bytes f) ≡ 4 + 6 * c.len.result = omega (arith, n, operand_bytes_lem s.old.now s.new.now c.args.h c.requires.0.stands) in (
      omega (arith, c.operand.ensures.0),
      c.operand.ensures.1 ∙ rw (c.put16.ensures, c.head.ensures) (sym (sets_definition (record { dst = c.args.dst; rhs = f }) c.args.out.now c.args.p _ e)),
    )
