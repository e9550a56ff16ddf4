-- The arrays hold the first numbers, and what fusing leaves of them, put back, is what it leaves of all. Assumes nothing.
use Rattle.std.proofs.Common.{◌≡◌, length, take, sym, ◌∙◌, arith}
use lib.Seq.{length-take-le}
use Rattle.fusion.specs.Answer.{told_fused}
use Rattle.records.proofs.Alls.{fuses_records}
use Rattle.records.proofs.Parts.{put_dsts, put_rhss}
use Rattle.records.proofs.Unloaded.{len_is, front_dsts, front_rhss}
use Rattle.records.proofs.fuse_records.Goals as goal

pub returns : goal.returns
returns c =
    let a = c.args in
    let ys = a.defs.now in
    let n = c.unload.new.self in
    let e = c.unload.ensures.are in
    let w = c.fuse_first-fused.new in
    let us = take n.len w.dsts in
    let vs = take n.len w.rhss in
    let same : length us ≡ length vs = length-take-le n.len w.dsts (omega arith) ∙ sym (length-take-le n.len w.rhss (omega arith)) in
    fuses_records a.z a.old.now a.new.now a.ands.now a.imuls.now a.bmuls.now a.zeros.now ys n.len (len_is ys n e) a.slots a.flags.now (take n.len n.dsts) (take n.len n.rhss)
    w.new w.ands w.imuls w.bmuls w.zeros us vs w.flags c.reload.new.defs (told_fused c.fuse_first-fused.result)
    (front_dsts ys n e) (front_rhss ys n e) (put_dsts ys c.reload.new.defs us vs same c.reload.ensures) (put_rhss ys c.reload.new.defs us vs same c.reload.ensures)
    c.fuse_first-fused.ensures.first
