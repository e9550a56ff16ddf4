-- A circle is refused; what has room is patched. Assumes nothing.
use Rattle.std.proofs.lemmas.Result.{err_from_is_err_and}
use Rattle.fusion.specs.Left.{Lent, lent, input}
use Rattle.fusion.proofs.Making.{operands_few}
use Rattle.fusion.proofs.Running.{room_lacks, room_has, room_holds, not_prepared, was_prepared, ready_by, short_by, patched_by}
use lib.ListN.{length-replicate}
use Prim.Native.Nat.{ℕ}
use mathlib.Core.Path.{sym, ◌∙◌}
use Rattle.fusion.proofs.fuse_checked.Goals as goal

pub returns-in_err-cursor : goal.returns-in_err-cursor
returns-in_err-cursor c =
    let l : Lent = lent c.args.old.now c.args.new.now c.args.ands.now c.args.imuls.now c.args.bmuls.now c.args.zeros.now c.args.dsts.now c.args.rhss.now c.args.flags.now in
    let p = err_from_is_err_and c.from_residual.result c.from_residual.ensures.1 in
    rw (p.1, p.2) (not_prepared {l = l} c.in_err-cursor.ensures)

pub returns-then-lacks_room : goal.returns-then-lacks_room
returns-then-lacks_room c =
    let l : Lent = lent c.args.old.now c.args.new.now c.args.ands.now c.args.imuls.now c.args.bmuls.now c.args.zeros.now c.args.dsts.now c.args.rhss.now c.args.flags.now in
    let p = was_prepared {s = input l} c.in_ok-cursor.ensures in
    short_by c.args.slots c.args.z l _ _ _ _ _ _ _ _ p.0 p.1
    (room_lacks c.args.z l _ _ _ _ _ _ p.1.rebuilt (length-replicate {A = ℕ} 16384 0) (sym c.lacks_room.ensures ∙ c.if-lacks_room.true))

pub apply_patches-requires : goal.apply_patches-requires
apply_patches-requires c =
    let l : Lent = lent c.args.old.now c.args.new.now c.args.ands.now c.args.imuls.now c.args.bmuls.now c.args.zeros.now c.args.dsts.now c.args.rhss.now c.args.flags.now in
    let p = was_prepared {s = input l} c.in_ok-cursor.ensures in
    let r = ready_by c.args.slots c.args.z l _ _ _ _ _ _ _ _ p.0 p.1 in
    let h = room_has c.args.z l _ _ _ _ _ _ p.1.rebuilt (length-replicate {A = ℕ} 16384 0) (sym c.lacks_room.ensures ∙ c.if-lacks_room.false) in
    record {
      ready = r;
      table_of_definitions = p.1.table_is;
      reach_in = p.1.reach_in;
      holds = room_holds c.args.z l _ _ _ _ _ _ p.1.rebuilt (length-replicate {A = ℕ} 16384 0) (length-replicate {A = ℕ} 7168 0) (operands_few c.args.z (input l) c.prepare.new.decisions r) h;
      room = h;
    }

pub returns : goal.returns
returns c =
    let l : Lent = lent c.args.old.now c.args.new.now c.args.ands.now c.args.imuls.now c.args.bmuls.now c.args.zeros.now c.args.dsts.now c.args.rhss.now c.args.flags.now in
    let p = was_prepared {s = input l} c.in_ok-cursor.ensures in
    let h = room_has c.args.z l _ _ _ _ _ _ p.1.rebuilt (length-replicate {A = ℕ} 16384 0) (sym c.lacks_room.ensures ∙ c.if-lacks_room.false) in
    patched_by c.args.slots c.args.z l _ _ _ _ _ _ _ _ p.0 p.1 _ _ h c.apply_patches.ensures.left c.apply_patches.ensures.counts
