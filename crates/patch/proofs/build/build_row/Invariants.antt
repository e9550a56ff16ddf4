use Rattle.patch.specs.Building.{built_by, build_all}
use Rattle.patch.specs.Spelling.{source_of, spell}
use Rattle.operand.specs.Numbers.{operand_of}
use lib.ListN.{length, drop}
use mathlib.Core.List.{map}
use Prim.Native.Nat.{◌≤◌}
use mathlib.Core.Path.{◌≡◌}
use Rattle.patch.proofs.build.build_row.Given as goal

abbrev pub invariant-loop-h : goal.invariant-loop-h
invariant-loop-h l = (l.h-index ≤ length l.row) × (length l.out ≡ length l.initial.out) × (l.cur.cursor.count ≤ length l.initial.out) × (build_all (spell (source_of l.source) l.below) (map (operand_of l.source.stores.old.now l.source.stores.new.now) (drop l.h-index l.row)) (built_by l.out l.list l.cur) ≡ build_all (spell (source_of l.source) l.below) (map (operand_of l.source.stores.old.now l.source.stores.new.now) l.row) (built_by l.initial.out l.initial.list l.initial.cur)) × (length l.list ≡ length l.initial.list)
