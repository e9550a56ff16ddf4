use mathlib.Core.Path.{◌≡◌}
use Prim.Native.Nat.{◌+◌, ◌≤◌}
use lib.ListN.{drop}
use lib.Seq.{sets}
use mathlib.Core.List.{map}
use Rattle.house_file.specs.Format.{operands_bytes}
use Rattle.operand.specs.Numbers.{operand_of}
use Rattle.house_write.specs.Sizes.{handles_size}
use Rattle.house_write.proofs.emit.operands.Given as goal

abbrev pub invariant-loop-h : goal.invariant-loop-h
invariant-loop-h l = record {
  bytes : sets l.initial.out l.p (operands_bytes (map (operand_of l.stores.old.now l.stores.new.now) l.hs)) ≡ sets l.out l.q (operands_bytes (map (operand_of l.stores.old.now l.stores.new.now) (drop l.h-index l.hs)));
  place : l.p + handles_size l.hs ≡ l.q + handles_size (drop l.h-index l.hs);
  later : l.p ≤ l.q;
}
