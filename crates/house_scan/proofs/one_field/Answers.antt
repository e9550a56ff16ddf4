-- A field is shut, the end, or an entry, and each case is answered by its own function. Assumes nothing.
use mathlib.Core.Path.{sym, ap, ◌∙◌}
use native.Mathlib.Omega.{arith}
use Rattle.std.proofs.lemmas.Result.{err_from_is_err_and}
use Rattle.house_file.specs.Reading.{counts_after}
use Rattle.house_file.proofs.Faults.{placed_ok, placed_err}
use Rattle.house_scan.proofs.Laws.{turn_shut, turn_closed, turn_unclosed, turn_refused, turn_go}
use Rattle.house_scan.proofs.one_field.Goals as goal

pub returns-in_err-head-clause-turn : goal.returns-in_err-head-clause-turn
returns-in_err-head-clause-turn c =
    let a = c.args in
    let p = err_from_is_err_and c.from_residual.result c.from_residual.ensures.1 in
    let q = placed_err _ _ c.in_err-head.ensures in
    rw (p.1, p.2, q.here) (turn_shut a.s.now a.wires a.place.counts a.place.at _ (rw q.refused at c.header.ensures.fault))

pub returns-in_err-closing-clause-turn : goal.returns-in_err-closing-clause-turn
returns-in_err-closing-clause-turn c =
    let a = c.args in
    let p = err_from_is_err_and c.from_residual-in_err-closing.result c.from_residual-in_err-closing.ensures.1 in
    let h = placed_ok _ _ c.in_ok-head.ensures in
    let f = rw h at c.header.ensures.fault in
    let k = rw h at c.header.ensures.head in
    rw (p.1, p.2) (turn_unclosed a.s.now a.wires a.place.counts a.place.at _ (sym f) (sym k.tag_is ∙ c.if-head-eq-END.true) c.in_err-closing.ensures)

pub returns-then-head-eq-END-clause-turn : goal.returns-then-head-eq-END-clause-turn
returns-then-head-eq-END-clause-turn c =
    let a = c.args in
    let h = placed_ok _ _ c.in_ok-head.ensures in
    let f = rw h at c.header.ensures.fault in
    let k = rw h at c.header.ensures.head in
    turn_closed a.s.now a.wires a.place.counts a.place.at (sym f) (sym k.tag_is ∙ c.if-head-eq-END.true) (sym c.in_ok-closing.ensures)

pub returns-in_err-counts-clause-turn : goal.returns-in_err-counts-clause-turn
returns-in_err-counts-clause-turn c =
    let a = c.args in
    let p = err_from_is_err_and c.from_residual-in_err-counts.result c.from_residual-in_err-counts.ensures.1 in
    let h = placed_ok _ _ c.in_ok-head.ensures in
    let f = rw h at c.header.ensures.fault in
    let k = rw h at c.header.ensures.head in
    let q = placed_err _ _ c.in_err-counts.ensures in
    let e = rw (q.refused, k.tag_is, k.end_is) at c.entry.ensures.fault in
    rw (p.1, p.2, q.here) (turn_refused a.s.now a.wires a.place.counts a.place.at (sym f) (λ i. c.if-head-eq-END.false (k.tag_is ∙ i)) _ e)

pub returns-clause-turn : goal.returns-clause-turn
unfolding counts_after
returns-clause-turn c =
    let a = c.args in
    let h = placed_ok _ _ c.in_ok-head.ensures in
    let f = rw h at c.header.ensures.fault in
    let k = rw h at c.header.ensures.head in
    let g = placed_ok _ _ c.in_ok-counts.ensures in
    let e = rw (g, k.tag_is, k.end_is) at c.entry.ensures.fault in
    let d = rw g at c.entry.ensures.counts in
    rw (d.are, k.tag_is, k.end_is) (turn_go a.s.now a.wires a.place.counts a.place.at (sym f) (λ i. c.if-head-eq-END.false (k.tag_is ∙ i)) e)
