-- The terms that are left are the whole. Assumes nothing.
use Prim.Native.Nat.{◌+◌}
use mathlib.Core.Path.{refl, sym, ap, ◌∙◌}
use mathlib.Core.List.{map}
use native.Mathlib.Omega.{arith}
use lib.ListN.{drop}
use Rattle.operand.specs.Numbers.{Operand, term_of}
use Rattle.lower.specs.Accepted.{ShiftsOf}
use Rattle.patch.specs.Steps.{write_terms}
use Rattle.patch.specs.Spelling.{Source, source_of, spelt, spell}
use Rattle.patch.proofs.Spells.{terms_step, terms_end, operand_read, operand_terms}
use Rattle.patch.proofs.rebuild.process_operand.Goals as goal

pub terms-ts-requires : goal.terms-ts-requires
terms-ts-requires c = c.requires.rooted.0.0

pub loop-t-init : goal.loop-t-init
loop-t-init c = (omega arith, refl, c.requires.rooted.1, refl)

pub expand_term-cur-requires : goal.expand_term-cur-requires
expand_term-cur-requires c =
    record { readable = c.requires.readable; within = c.requires.within _; shifts_of = (operand_read ShiftsOf c.args.source.now.stores.old.now c.args.source.now.stores.new.now c.terms-ts.result.now c.args.h c.loop-t.t-index c.terms-ts.ensures c.requires.rooted.0.1 c.loop-t-test.true, omega (arith, c.loop-t.invariant.1, c.loop-t.invariant.2)) }

pub loop-t-preserved : goal.loop-t-preserved
loop-t-preserved c =
    let q : Source = source_of c.args.source.now in (
      omega (arith, c.loop-t-test.true),
      omega arith,
      omega (arith, c.expand_term-cur.ensures.1, c.loop-t.invariant.1),
      ap (write_terms (spell q c.args.below) (map term_of (drop (c.loop-t.t-index + 1) c.terms-ts.result.now))) c.expand_term-cur.ensures.0
          ∙ sym (terms_step (spell q c.args.below) c.terms-ts.result.now c.loop-t.t-index (spelt c.loop-t.out c.loop-t.cur) c.loop-t-test.true) ∙ c.loop-t.invariant.3,
    )

pub returns : goal.returns
returns c =
    let q : Source = source_of c.args.source.now in (
      sym (terms_end (spell q c.args.below) c.terms-ts.result.now c.loop-t.t-index (spelt c.loop-t.out c.loop-t.cur) c.loop-t-test.false) ∙ c.loop-t.invariant.3
          ∙ ap (λ (o : Operand). write_terms (spell q c.args.below) o (spelt c.args.out.now c.args.c)) (operand_terms c.args.source.now.stores.old.now c.args.source.now.stores.new.now c.terms-ts.result.now c.args.h c.terms-ts.ensures),
      c.loop-t.invariant.2,
    )
