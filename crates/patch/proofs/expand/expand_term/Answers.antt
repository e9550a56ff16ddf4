-- The mask begins as what gets through the term's own two shifts; each way is one law of the definition. Assumes nothing.
use mathlib.Core.Path.{◌≡◌, sym, ap, ◌∙◌, subst}
use mathlib.Core.Option.{none}
use Prim.Native.Nat.{ℕ, ◌-◌}
use native.Mathlib.Omega.{arith}
use lib.ListN.{get_or}
use Rattle.shift.specs.Shifts.{valid_number, shift_at}
use Rattle.shift.proofs.Numbers.{valid_at}
use Rattle.operand.specs.Numbers.{Term, Operand, term_of}
use Rattle.legraph.specs.Tables.{told_node}
use Rattle.legraph.specs.Walked.{rhs_in}
use Rattle.patch.specs.Spelling.{Source, source_of, in_place, spelt, spelt_to, inner_of, outer_of, spell_under, spell, Sees}
use Rattle.patch.proofs.Spells.{to_spelt, to_cursor, cursor_low, place_none, Placed, place_some, spell_full, spell_stands, some_left, within-below, spell-dead, spell_opens}
use Rattle.patch.proofs.Passing.{sees_two, seen_dead}
use Rattle.patch.proofs.Folds.{bare_there}
use Rattle.patch.proofs.expand.expand_term.Goals as goal

pub returns-then-c : goal.returns-then-c
returns-then-c c =
    let q : Source = source_of c.args.source.now in
    (spell_full q c.args.below (spelt c.args.out.now c.args.c) (term_of c.args.t) c.if-c.true, c.requires.shifts_of.1)

pub put-requires : goal.put-requires
put-requires c = (c.if-c.false, c.requires.shifts_of.1)

pub returns-in_default : goal.returns-in_default
returns-in_default c =
    let q : Source = source_of c.args.source.now in
    (c.put.ensures.0 ∙ spell_stands q c.args.below (spelt c.args.out.now c.args.c) (term_of c.args.t) (subst (λ (w : ℕ). in_place q w ≡ none) c.wire.ensures (place_none q _ (sym c.inlined-node.ensures.node ∙ ap told_node c.in_default.is))), c.put.ensures.1)

pub returns-then-is_dead : goal.returns-then-is_dead
returns-then-is_dead c =
    let q : Source = source_of c.args.source.now in
    let d : ℕ = c.in-LinDef.d.0 in
    let p = subst (λ (w : ℕ). Placed q w d) c.wire.ensures (place_some q _ d (sym c.inlined-node.ensures.node ∙ ap told_node c.in-LinDef.is)) in
    (spell-dead q c.args.below (spelt c.args.out.now c.args.c) (term_of c.args.t) d p c.requires.within (sym (seen_dead c.through-mask.result (inner_of c.args.t) (outer_of c.args.t) (subst (λ (x : ℕ). Sees x (inner_of c.args.t) (outer_of c.args.t)) (sym c.through-mask.ensures) (sees_two (inner_of c.args.t) (outer_of c.args.t) (valid_at (term_of c.args.t).inner c.requires.shifts_of.0.0) (valid_at (term_of c.args.t).outer c.requires.shifts_of.0.1))) (get_or c.args.source.now.alive.now d 0) (c.is_dead.ensures.word)) ∙ sym c.is_dead.ensures.dead ∙ c.if-is_dead.true), c.requires.shifts_of.1)

pub overflow_sub-below : goal.overflow_sub-below
overflow_sub-below c =
    let q : Source = source_of c.args.source.now in
    let d : ℕ = c.in-LinDef.d.0 in
    let p = subst (λ (w : ℕ). Placed q w d) c.wire.ensures (place_some q _ d (sym c.inlined-node.ensures.node ∙ ap told_node c.in-LinDef.is)) in
    some_left q c.args.below (spelt c.args.out.now c.args.c) (term_of c.args.t) d p c.requires.within

pub expand_operand-n-requires : goal.expand_operand-n-requires
expand_operand-n-requires c =
    let q : Source = source_of c.args.source.now in
    let d : ℕ = c.in-LinDef.d.0 in
    let p = subst (λ (w : ℕ). Placed q w d) c.wire.ensures (place_some q _ d (sym c.inlined-node.ensures.node ∙ ap told_node c.in-LinDef.is)) in
    let e = ap term_of c.shifts.ensures ∙ bare_there c.args.t in
    record { openable = record { rest = q; opened = record { nodes = c.inlined-node.ensures.nodes; readable = c.requires.readable; opens = c.requires.readable (term_of c.args.t).wire d p.node; deep = within-below q c.args.below (spelt c.args.out.now c.args.c) (term_of c.args.t) d p c.requires.within } }; over = ((ap (λ (u : Term). u.wire) e, (ap (λ (u : Term). valid_number u.inner) e ∙ c.requires.shifts_of.0.0, ap (λ (u : Term). valid_number u.outer) e ∙ c.requires.shifts_of.0.1)), omega (arith, c.requires.shifts_of.1)); sees = subst (λ (u : Term). Sees c.through-mask.result (shift_at u.inner) (shift_at u.outer)) (sym e) (subst (λ (x : ℕ). Sees x (inner_of c.args.t) (outer_of c.args.t)) (sym c.through-mask.ensures) (sees_two (inner_of c.args.t) (outer_of c.args.t) (valid_at (term_of c.args.t).inner c.requires.shifts_of.0.0) (valid_at (term_of c.args.t).outer c.requires.shifts_of.0.1))) }

pub returns : goal.returns
returns c =
    let q : Source = source_of c.args.source.now in
    let d : ℕ = c.in-LinDef.d.0 in
    let p = subst (λ (w : ℕ). Placed q w d) c.wire.ensures (place_some q _ d (sym c.inlined-node.ensures.node ∙ ap told_node c.in-LinDef.is)) in
    let rhs : Operand = rhs_in c.args.source.now.stores.old.now c.args.source.now.stores.new.now c.args.source.now.rhss.now d in (
      ap (spelt _) c.cursor.ensures ∙ to_spelt _ c.expand_operand-n.result ∙ c.expand_operand-n.ensures.0 q (record { nodes = c.inlined-node.ensures.nodes; readable = c.requires.readable; opens = c.requires.readable (term_of c.args.t).wire d p.node; deep = within-below q c.args.below (spelt c.args.out.now c.args.c) (term_of c.args.t) d p c.requires.within })
          ∙ ap (λ (u : Term). spell_under (spell q (c.args.below - 1)) (shift_at u.inner) (shift_at u.outer) rhs (spelt_to c.args.out.now c.args.c.count)) (ap term_of c.shifts.ensures ∙ bare_there c.args.t)
          ∙ ap (spell_under (spell q (c.args.below - 1)) (inner_of c.args.t) (outer_of c.args.t) rhs) (to_cursor c.args.out.now c.args.c c.if-c.false c.requires.shifts_of.1)
          ∙ spell_opens q c.args.below (spelt c.args.out.now c.args.c) (term_of c.args.t) d p c.requires.within (sym (seen_dead c.through-mask.result (inner_of c.args.t) (outer_of c.args.t) (subst (λ (x : ℕ). Sees x (inner_of c.args.t) (outer_of c.args.t)) (sym c.through-mask.ensures) (sees_two (inner_of c.args.t) (outer_of c.args.t) (valid_at (term_of c.args.t).inner c.requires.shifts_of.0.0) (valid_at (term_of c.args.t).outer c.requires.shifts_of.0.1))) (get_or c.args.source.now.alive.now d 0) (c.is_dead.ensures.word)) ∙ sym c.is_dead.ensures.dead ∙ c.if-is_dead.false),
      cursor_low c.cursor.result _ _ _ c.cursor.ensures (omega arith),
    )
