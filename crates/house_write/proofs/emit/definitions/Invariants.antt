use mathlib.Core.Path.{◌≡◌}
use Prim.Native.Nat.{◌+◌, ◌*◌, ◌≤◌}
use lib.ListN.{length, drop}
use lib.Seq.{sets}
use mathlib.Core.List.{map}
use mathlib.Core.Bool.{false}
use Rattle.house_file.specs.Format.{linear_entry, list_bytes}
use Rattle.lower.specs.Stores.{definitions_of}
use Rattle.operand.specs.Numbers.{operand_of}
use Rattle.house_write.specs.Sizes.{definitions_wide}
use Rattle.house_write.proofs.emit.definitions.Given as goal

abbrev pub invariant-loop-i : goal.invariant-loop-i
invariant-loop-i l = record {
  bytes : sets l.initial.out l.p (list_bytes (map linear_entry (definitions_of (operand_of l.stores.old.now l.stores.new.now) l.dsts l.rhss))) ≡ sets l.out l.q (list_bytes (map linear_entry (definitions_of (operand_of l.stores.old.now l.stores.new.now) (drop l.i l.dsts) (drop l.i l.rhss))));
  place : l.p + length (list_bytes (map linear_entry (definitions_of (operand_of l.stores.old.now l.stores.new.now) l.dsts l.rhss))) ≡ l.q + length (list_bytes (map linear_entry (definitions_of (operand_of l.stores.old.now l.stores.new.now) (drop l.i l.dsts) (drop l.i l.rhss))));
  narrow : definitions_wide (drop l.i l.rhss) ≡ false;
  near : l.q ≤ l.p + 70000 * l.i;
}
