use mathlib.Core.Path.{◌≡◌}
use Prim.Native.Nat.{◌+◌, ◌-◌, ◌*◌, ◌≤◌}
use lib.ListN.{length, take}
use lib.Seq.{sets}
use mathlib.Core.List.{map}
use mathlib.Core.Bool.{false}
use Rattle.house_file.specs.Format.{row_entry, list_bytes}
use Rattle.lower.specs.Stores.{rows_of}
use Rattle.lower.specs.Lists.{All}
use Rattle.operand.specs.Numbers.{operand_of}
use Rattle.house_write.specs.Sizes.{rows_wide, Ready}
use Rattle.house_write.proofs.emit.rows.Given as goal

abbrev pub invariant-loop : goal.invariant-loop
invariant-loop l = record {
  bytes : sets l.initial.out l.p (list_bytes (map (row_entry l.tag) (rows_of (operand_of l.stores.old.now l.stores.new.now) l.k l.n l.hs))) ≡ sets l.out l.q (list_bytes (map (row_entry l.tag) (rows_of (operand_of l.stores.old.now l.stores.new.now) l.k (l.n - l.counter) l.rest)));
  place : l.p + length (list_bytes (map (row_entry l.tag) (rows_of (operand_of l.stores.old.now l.stores.new.now) l.k l.n l.hs))) ≡ l.q + length (list_bytes (map (row_entry l.tag) (rows_of (operand_of l.stores.old.now l.stores.new.now) l.k (l.n - l.counter) l.rest)));
  ready : All (Ready l.stores.old.now l.stores.new.now) (take (l.k * (l.n - l.counter)) l.rest);
  narrow : rows_wide l.k (l.n - l.counter) l.rest ≡ false;
  room : l.k * (l.n - l.counter) ≤ length l.rest;
  near : l.q ≤ l.p + 70000 * l.counter;
}
