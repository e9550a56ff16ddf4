-- A term goes below through its definition, whose chain is one shorter; what is passed over writes nothing, and each other way is one law of
-- an entry, of whatever source the store was laid down for. Assumes nothing.
use mathlib.Core.Path.{refl, sym, ap, ◌∙◌, subst}
use mathlib.Core.List.{map}
use native.Mathlib.Omega.{arith}
use lib.ListN.{get_or, drop}
use Rattle.operand.specs.Numbers.{Operand, term_of}
use Rattle.shift.proofs.Numbers.{valid_at}
use Rattle.legraph.proofs.Walks.{rhs_terms}
use Rattle.legraph.specs.Walked.{rhs_in}
use Rattle.patch.specs.Steps.{Written}
use Rattle.patch.specs.Spelling.{Source, spelt_to, inner_of, outer_of, spell_under, spell, Sees, terms_in, reading}
use Rattle.patch.proofs.Spells.{to_full, under_full, under_step, under_end}
use Rattle.patch.proofs.Folds.{over-low}
use Rattle.patch.proofs.Entries.{entered_left, entered_opens, entered_valid, entered_nothing, entered_over, entered_sees, entered_stands, entered_goes, masks_length, entries_length, entered_at, passed_to}
use Prim.Native.Nat.{ℕ, ◌+◌, ◌-◌}
use Rattle.patch.proofs.expand.+expand_at_expand_below_expand_operand.Goals as goal

pub expand_at-returns-then-out-n : goal.expand_at-returns-then-out-n
expand_at-returns-then-out-n t c =
    (λ q o. under_full (reading q c.args.alive.now) (c.args.below - 1) (spelt_to c.args.out.now c.args.n) (inner_of c.args.over) (outer_of c.args.over) (rhs_in q.old q.new q.rhss c.args.d.0) (ap (λ (m : Written). m.full) (to_full c.args.out.now c.args.n c.if-out-n.true)), c.requires.over.1)

pub expand_at-pull-requires : goal.expand_at-pull-requires
expand_at-pull-requires t c = c.requires.s_value

pub expand_at-overflow_sub-below : goal.expand_at-overflow_sub-below
expand_at-overflow_sub-below t c = c.requires.below_nonzero.0

pub expand_at-expand_operand-requires : goal.expand_at-expand_operand-requires
expand_at-expand_operand-requires t c =
    (omega (arith, c.requires.below_nonzero.0), (c.requires.below_nonzero.1, (c.requires.over, subst (λ (x : ℕ). Sees x (inner_of c.args.over) (outer_of c.args.over)) (sym c.pull.ensures) c.requires.sees)))

pub expand_at-returns : goal.expand_at-returns
expand_at-returns t c = c.expand_operand.ensures

pub expand_below-fold-requires : goal.expand_below-fold-requires
expand_below-fold-requires t c =
    let h = c.requires.enterable in
    (c.requires.over.0, entered_valid (reading h.rest c.args.alive.now) h.number c.args.e c.args.mask c.args.below h.entered c.inner-s.result c.inner-s.ensures)

pub expand_below-returns-in_default : goal.expand_below-returns-in_default
expand_below-returns-in_default t c =
    (λ q u h. entered_nothing (reading q c.args.alive.now) u c.args.e c.args.mask c.args.below h c.inner-s.result c.inner-s.ensures c.args.over c.requires.over.0 c.requires.sees c.fold.result c.fold.ensures c.in_default.is (spelt_to c.args.out.now c.args.n), c.requires.over.1)

pub expand_below-overflow_add-x : goal.expand_below-overflow_add-x
expand_below-overflow_add-x t c =
    let h = c.requires.enterable in
    omega (arith, over-low c.in-Some.x (entered_over (reading h.rest c.args.alive.now) h.number c.args.e c.args.mask c.args.below h.entered c.inner-s.result c.inner-s.ensures c.args.over c.requires.over.0 c.requires.sees c.fold.result c.fold.ensures c.in-Some.x c.in-Some.is), c.wire-wire.ensures)

pub expand_below-returns-then-e-lt4294967296 : goal.expand_below-returns-then-e-lt4294967296
expand_below-returns-then-e-lt4294967296 t c = (
  λ q u h. c.put_below.ensures.0
      ∙ entered_stands (reading q c.args.alive.now) u c.args.e c.args.mask c.args.below h c.inner-s.result c.inner-s.ensures c.args.over c.requires.over.0 c.requires.sees c.fold.result c.fold.ensures c.in-Some.x c.in-Some.is c.wire-wire.result.0 c.wire-wire.ensures c.if-e-lt4294967296.true (spelt_to c.args.out.now c.args.n),
  c.put_below.ensures.1,
)

pub expand_below-expand_at-requires : goal.expand_below-expand_at-requires
expand_below-expand_at-requires t c =
    let h = c.requires.enterable in
    let q : Source = reading h.rest c.args.alive.now in
    let w : ℕ = c.wire-wire.result.0 in (
      omega arith,
      (
        (
          entered_left q h.number c.args.e c.args.mask c.args.below h.entered w c.wire-wire.ensures c.if-e-lt4294967296.false,
          record { rest = h.rest; opened = entered_opens q h.number c.args.e c.args.mask c.args.below h.entered w c.wire-wire.ensures c.if-e-lt4294967296.false },
        ),
        (
          entered_valid q h.number c.args.e c.args.mask c.args.below h.entered c.inner-s.result c.inner-s.ensures,
          (
            (
              entered_over q h.number c.args.e c.args.mask c.args.below h.entered c.inner-s.result c.inner-s.ensures c.args.over c.requires.over.0 c.requires.sees c.fold.result c.fold.ensures c.in-Some.x c.in-Some.is,
              c.requires.over.1,
            ),
            entered_sees q h.number c.args.e c.args.mask c.args.below h.entered c.inner-s.result c.inner-s.ensures c.args.over c.requires.over.0 c.requires.sees c.fold.result c.fold.ensures c.in-Some.x c.in-Some.is,
          ),
        ),
      ),
    )

pub expand_below-returns : goal.expand_below-returns
expand_below-returns t c =
    let w : ℕ = c.wire-wire.result.0 in (
      λ q u h. c.expand_at.ensures.0 q (entered_opens (reading q c.args.alive.now) u c.args.e c.args.mask c.args.below h w c.wire-wire.ensures c.if-e-lt4294967296.false)
          ∙ entered_goes (reading q c.args.alive.now) u c.args.e c.args.mask c.args.below h c.inner-s.result c.inner-s.ensures c.args.over c.requires.over.0 c.requires.sees c.fold.result c.fold.ensures c.in-Some.x c.in-Some.is w c.wire-wire.ensures c.if-e-lt4294967296.false (omega (arith, c.type_inv.alive w)) (spelt_to c.args.out.now c.args.n),
      c.expand_at.ensures.1,
    )

pub expand_operand-bounds-alive-i : goal.expand_operand-bounds-alive-i
expand_operand-bounds-alive-i t c = c.requires.openable.opened.opens.looks.begins

pub expand_operand-part-ms-requires : goal.expand_operand-part-ms-requires
expand_operand-part-ms-requires t c = let l = c.requires.openable.opened.opens.looks in omega (arith, l.ends, l.as_many)

pub expand_operand-overflow_add-at : goal.expand_operand-overflow_add-at
expand_operand-overflow_add-at t c = let l = c.requires.openable.opened.opens.looks in omega (arith, l.ends, l.as_many)

pub expand_operand-part-es-requires : goal.expand_operand-part-es-requires
expand_operand-part-es-requires t c = let l = c.requires.openable.opened.opens.looks in omega (arith, l.ends, l.as_many)

pub expand_operand-loop-k-init : goal.expand_operand-loop-k-init
expand_operand-loop-k-init t c =
    let h = c.requires.openable in
    let r = c.next_live-k.ensures in
    let ms = c.part-ms.result.now in
    let es = c.part-es.result.now in
    let e = masks_length (reading h.rest c.args.alive.now) c.args.d.0 c.args.below h.opened ms es c.part-ms.ensures c.part-es.ensures ∙ sym (entries_length (reading h.rest c.args.alive.now) c.args.d.0 c.args.below h.opened ms es c.part-ms.ensures c.part-es.ensures) in (
      omega (arith, r.1, e),
      refl,
      λ z. r.3 (omega (arith, z, e)),
      c.requires.over.1,
      λ q o. passed_to (reading q c.args.alive.now) c.args.d.0 c.args.below o ms es c.part-ms.ensures c.part-es.ensures (λ j. omega (arith, c.type_inv.alive j)) c.args.mask (inner_of c.args.over) (outer_of c.args.over) (valid_at (term_of c.args.over).inner c.requires.over.0.1.0) (valid_at (term_of c.args.over).outer c.requires.over.0.1.1) c.requires.sees 0 c.next_live-k.result r.0 r.1 r.2 (spelt_to c.args.out.now c.args.n),
    )

pub expand_operand-expand_below-cur-requires : goal.expand_operand-expand_below-cur-requires
expand_operand-expand_below-cur-requires t c =
    let h = c.requires.openable in
    let l = c.loop-k in
    let b = c.loop-k-test.true in (
      omega arith,
      (
        record {
          rest = h.rest;
          number = get_or (terms_in h.rest c.args.d.0) l.k 0;
          entered = entered_at (reading h.rest c.args.alive.now) c.args.d.0 c.args.below h.opened c.part-ms.result.now c.part-es.result.now c.part-ms.ensures c.part-es.ensures c.args.mask l.k b (l.invariant.2 b);
        },
        ((c.requires.over.0, omega (arith, l.invariant.1, l.invariant.3)), c.requires.sees),
      ),
    )

pub expand_operand-next_live-k-requires-in-loop-k : goal.expand_operand-next_live-k-requires-in-loop-k
expand_operand-next_live-k-requires-in-loop-k t c =
    let h = c.requires.openable in
    let ms = c.part-ms.result.now in
    let es = c.part-es.result.now in
    let e = masks_length (reading h.rest c.args.alive.now) c.args.d.0 c.args.below h.opened ms es c.part-ms.ensures c.part-es.ensures ∙ sym (entries_length (reading h.rest c.args.alive.now) c.args.d.0 c.args.below h.opened ms es c.part-ms.ensures c.part-es.ensures) in
    omega (arith, e, c.loop-k-test.true)

pub expand_operand-loop-k-preserved : goal.expand_operand-loop-k-preserved
expand_operand-loop-k-preserved t c =
    let h = c.requires.openable in
    let l = c.loop-k in
    let b = c.expand_below-cur in
    let r = c.next_live-k-in-loop-k.ensures in
    let k = c.loop-k-test.true in
    let ms = c.part-ms.result.now in
    let es = c.part-es.result.now in
    let e = masks_length (reading h.rest c.args.alive.now) c.args.d.0 c.args.below h.opened ms es c.part-ms.ensures c.part-es.ensures ∙ sym (entries_length (reading h.rest c.args.alive.now) c.args.d.0 c.args.below h.opened ms es c.part-ms.ensures c.part-es.ensures) in (
      omega (arith, r.1, e),
      omega arith,
      λ z. r.3 (omega (arith, z, e)),
      omega (arith, b.ensures.1, l.invariant.1),
      λ q o. let x : Source = reading q c.args.alive.now in let ts = terms_in q c.args.d.0 in
          passed_to (reading q c.args.alive.now) c.args.d.0 c.args.below o ms es c.part-ms.ensures c.part-es.ensures (λ j. omega (arith, c.type_inv.alive j)) c.args.mask (inner_of c.args.over) (outer_of c.args.over) (valid_at (term_of c.args.over).inner c.requires.over.0.1.0) (valid_at (term_of c.args.over).outer c.requires.over.0.1.1) c.requires.sees (l.k + 1) c.next_live-k-in-loop-k.result r.0 r.1 r.2 _
          ∙ ap (spell_under (spell x c.args.below) (inner_of c.args.over) (outer_of c.args.over) (map term_of (drop (l.k + 1) ts))) (b.ensures.0 q (get_or ts l.k 0) (entered_at (reading q c.args.alive.now) c.args.d.0 c.args.below o ms es c.part-ms.ensures c.part-es.ensures c.args.mask l.k k (l.invariant.2 k)))
          ∙ sym (under_step (spell x c.args.below) (inner_of c.args.over) (outer_of c.args.over) ts l.k (spelt_to l.out l.cur) (omega (arith, k, entries_length (reading q c.args.alive.now) c.args.d.0 c.args.below o ms es c.part-ms.ensures c.part-es.ensures)))
          ∙ l.invariant.4 q o,
    )

pub expand_operand-returns : goal.expand_operand-returns
expand_operand-returns t c =
    let l = c.loop-k in (
      λ q o. let x : Source = reading q c.args.alive.now in let ts = terms_in q c.args.d.0 in
          sym (under_end (spell x c.args.below) (inner_of c.args.over) (outer_of c.args.over) ts l.k (spelt_to l.out l.cur) (omega (arith, c.loop-k-test.false, entries_length (reading q c.args.alive.now) c.args.d.0 c.args.below o c.part-ms.result.now c.part-es.result.now c.part-ms.ensures c.part-es.ensures)))
          ∙ l.invariant.4 q o
          ∙ ap (λ (u : Operand). spell_under (spell x c.args.below) (inner_of c.args.over) (outer_of c.args.over) u (spelt_to c.args.out.now c.args.n)) (rhs_terms q.old q.new q.rhss ts c.args.d.0 refl),
      l.invariant.3,
    )
