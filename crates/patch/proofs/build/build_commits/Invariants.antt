use Rattle.patch.specs.Building.{built_by, build_all, commits_in}
use Rattle.patch.specs.Spelling.{source_of, spell}
use lib.ListN.{length}
use Prim.Native.Nat.{◌-◌, ◌≤◌}
use mathlib.Core.Path.{◌≡◌}
use Rattle.patch.proofs.build.build_commits.Given as goal

abbrev pub invariant-loop-w : goal.invariant-loop-w
invariant-loop-w l = (l.w ≤ l.wires) × (length l.out ≡ length l.initial.out) × (l.cur.cursor.count ≤ length l.initial.out) × (build_all (spell (source_of l.source) l.below) (commits_in (source_of l.source) l.w (l.wires - l.w)) (built_by l.out l.list l.cur) ≡ build_all (spell (source_of l.source) l.below) (commits_in (source_of l.source) 0 l.wires) (built_by l.initial.out l.initial.list l.initial.cur)) × (length l.list ≡ length l.initial.list)
