-- The arrays hold the first numbers, and what is read to them, put back, is what is read to all. Assumes nothing.
use Rattle.std.proofs.Common.{◌≡◌, length, take, sym, ◌∙◌, arith}
use lib.Seq.{length-take-le}
use Rattle.records.proofs.Parts.{put_dsts, put_rhss}
use Rattle.records.proofs.Unloaded.{len_is, front_dsts, front_rhss}
use Rattle.records.proofs.Readings.{reads_records}
use Rattle.records.proofs.files.read_records.Goals as goal

pub returns : goal.returns
returns c =
    let a = c.args in
    let ys = a.defs.now in
    let n = c.unload.new.self in
    let e = c.unload.ensures.are in
    let w = c.read_numbers-read.new in
    let us = take n.len w.dsts in
    let vs = take n.len w.rhss in
    let same : length us ≡ length vs = length-take-le n.len w.dsts (omega arith) ∙ sym (length-take-le n.len w.rhss (omega arith)) in
    reads_records a.input.now a.terms.now a.ands.now a.imuls.now a.bmuls.now a.zeros.now ys (take n.len n.dsts) (take n.len n.rhss) n.len (len_is ys n e) (front_dsts ys n e) (front_rhss ys n e)
    c.read_numbers-read.result w.terms w.ands w.imuls w.bmuls w.zeros us vs c.reload.new.defs
    (put_dsts ys c.reload.new.defs us vs same c.reload.ensures) (put_rhss ys c.reload.new.defs us vs same c.reload.ensures)
    c.read_numbers-read.ensures.first
