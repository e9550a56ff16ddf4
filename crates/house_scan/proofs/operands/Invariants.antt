use mathlib.Core.Path.{◌≡◌}
use Prim.Native.Nat.{◌+◌, ◌*◌, ◌-◌, ◌≤◌}
use Rattle.house_file.specs.Decoding.{operands_next, operands_terms}
use Rattle.house_file.specs.Reading.{operands_fault}
use Rattle.house_scan.proofs.operands.Given as goal

abbrev pub invariant-loop : goal.invariant-loop
invariant-loop l = record {
  fault : operands_fault l.s l.wires l.end l.k l.at ≡ operands_fault l.s l.wires l.end (l.k - l.counter) l.all.next;
  next : operands_next l.s l.k l.at ≡ operands_next l.s (l.k - l.counter) l.all.next;
  terms : operands_terms l.s l.k l.at ≡ l.all.terms + operands_terms l.s (l.k - l.counter) l.all.next;
  fits : l.at + 6 * l.all.terms ≤ l.all.next;
  inside : l.all.next ≤ l.end;
}
