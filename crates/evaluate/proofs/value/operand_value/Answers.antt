-- The sum of the terms that are left is that of all of them in the end. Assumes nothing.
use Rattle.std.proofs.Common.{arith, ◌≡◌, ap, ◌∙◌, ℕ, ◌-◌}
use Rattle.operand.specs.Numbers.{term_of}
use Rattle.lower.specs.Accepted.{ShiftsOf}
use Rattle.lower.specs.Values.{word_of, value}
use Rattle.lower.proofs.Firsts.{all_at}
use Rattle.evaluate.proofs.Summing.{sum_end, sum_back, terms_are, terms_shifted}
use Rattle.evaluate.proofs.value.operand_value.Goals as goal

pub loop-i-init : goal.loop-i-init
loop-i-init c = sum_end (word_of c.args.words.now) c.terms-ts.result.now

pub term_value-sum-requires : goal.term_value-sum-requires
term_value-sum-requires c =
    all_at {P = λ (t : ℕ). ShiftsOf (term_of t)} c.terms-ts.result.now (c.loop-i.i - 1) 0 (terms_shifted _ _ _ _ c.terms-ts.ensures c.requires.shifted) (omega arith)

pub loop-i-preserved : goal.loop-i-preserved
loop-i-preserved c = sum_back (word_of c.args.words.now) c.terms-ts.result.now c.loop-i.i c.term_value-sum.result c.loop-i.sum (omega arith) (omega arith) c.term_value-sum.ensures c.loop-i.invariant

pub returns : goal.returns
returns c = let e : c.loop-i.i ≡ 0 = omega arith in
    rw e at c.loop-i.invariant ∙ ap (value (word_of c.args.words.now)) (terms_are c.args.stores.now.old.now c.args.stores.now.new.now c.args.h c.terms-ts.result.now c.terms-ts.ensures)
