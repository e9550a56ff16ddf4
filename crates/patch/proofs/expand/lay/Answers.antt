-- All bits and the wire where it stands, and else the bits of the definition below the shift, and the definition; the parts of an entry
-- are added up where each has its place. Assumes nothing.
use mathlib.Core.Path.{◌≡◌, sym, ap, ap₂, ◌∙◌, subst}
use mathlib.Core.Bool.{true}
use Prim.Native.Nat.{ℕ, suc, ◌+◌, ◌*◌}
use native.Mathlib.Omega.{arith}
use lib.ListN.{get_or, set}
use Rattle.shift.specs.declared.Shift.{Shift}
use Rattle.shift.specs.Shifts.{valid_number, shift_at, apply_of}
use Rattle.operand.specs.Numbers.{term_of, term_number}
use Rattle.legraph.specs.Tables.{told_node}
use Rattle.patch.specs.Spelling.{inlined_number}
use Rattle.patch.proofs.Looking.{look_none, look-some}
use Rattle.patch.proofs.Entries.{laid_none, laid-some}
use Rattle.patch.proofs.expand.lay.Goals as goal

pub returns-in_default : goal.returns-in_default
returns-in_default c =
    let q : inlined_number c.args.decisions.now (get_or c.args.table.now (term_of c.args.t).wire 0) ≡ 0 = subst (λ (w : ℕ). inlined_number c.args.decisions.now (get_or c.args.table.now w 0) ≡ 0) c.wire-wire.ensures (sym c.inlined-node.ensures.node ∙ ap told_node c.in_default.is) in
    let e : 65536 * c.inner-s.result + c.wire-wire.result.0 ≡ term_number (record { wire = (term_of c.args.t).wire; inner = (term_of c.args.t).inner; outer = 0 }) = omega (arith, c.wire-wire.ensures, c.inner-s.ensures) in
    ap₂ (λ (x y : ℕ). set (set c.args.alive.now c.args.at x) c.args.to y)
    (look_none c.args.table.now c.args.decisions.now c.args.alive.now (term_of c.args.t) q)
    (e ∙ laid_none c.args.table.now c.args.decisions.now c.args.t q)

pub from_index-requires : goal.from_index-requires
from_index-requires c = subst (λ (n : ℕ). valid_number n ≡ true) (sym c.inner-s.ensures) c.requires.t_value

pub apply-m-requires : goal.apply-m-requires
apply-m-requires c = c.from_index.ensures.1

pub returns : goal.returns
returns c = let d : ℕ = c.in-LinDef.d.0 in
    let q : inlined_number c.args.decisions.now (get_or c.args.table.now (term_of c.args.t).wire 0) ≡ suc d = subst (λ (w : ℕ). inlined_number c.args.decisions.now (get_or c.args.table.now w 0) ≡ suc d) c.wire-wire.ensures (sym c.inlined-node.ensures.node ∙ ap told_node c.in-LinDef.is) in
    let e : 4294967296 + 65536 * c.inner-s.result + d ≡ term_number (record { wire = d; inner = (term_of c.args.t).inner; outer = 1 }) = omega (arith, c.inner-s.ensures) in
    ap₂ (λ (x y : ℕ). set (set c.args.alive.now c.args.at x) c.args.to y)
    (c.apply-m.ensures ∙ ap₂ (λ (x : Shift) (y : ℕ). apply_of x y) (c.from_index.ensures.0 ∙ ap shift_at c.inner-s.ensures) c.mask_of.ensures
    ∙ look-some c.args.table.now c.args.decisions.now c.args.alive.now (term_of c.args.t) d q)
    (e ∙ laid-some c.args.table.now c.args.decisions.now c.args.t d q)
