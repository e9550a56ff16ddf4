use Rattle.patch.specs.Building.{built_by, build_all, Rooted, rows_in}
use Rattle.patch.specs.Spelling.{source_of, spell}
use Rattle.lower.specs.Lists.{All}
use Rattle.std.specs.Slice.Iter.{chunks_exact_rest, chunks_exact_size}
use lib.ListN.{length}
use Prim.Native.Nat.{◌/◌, ◌≤◌}
use mathlib.Core.Path.{◌≡◌}
use Rattle.patch.proofs.build.build_rows.Given as goal

abbrev pub invariant-loop-row : goal.invariant-loop-row
invariant-loop-row l = record {
  sized : chunks_exact_size l.row-iterator ≡ l.width;
  rooted : All (Rooted l.source.stores.old.now l.source.stores.new.now) (chunks_exact_rest l.row-iterator);
  room : l.cur.cursor.count ≤ length l.initial.out;
  left : build_all (spell (source_of l.source) l.below) (rows_in (source_of l.source) l.width (length (chunks_exact_rest l.row-iterator) / l.width) (chunks_exact_rest l.row-iterator)) (built_by l.out l.list l.cur) ≡ build_all (spell (source_of l.source) l.below) (rows_in (source_of l.source) l.width (length l.rows / l.width) l.rows) (built_by l.initial.out l.initial.list l.initial.cur);
}
