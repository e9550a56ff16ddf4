-- The values written so far are those of the first operands. Assumes nothing.
use Rattle.std.proofs.Common.{arith, ◌≡◌, ap, ◌∙◌, refl, ◌+◌, List, ℕ, set, length}
use lib.Seq.{sets, take-length}
use Rattle.lower.proofs.Firsts.{all_at}
use Rattle.evaluate.specs.Steps.{values_at}
use Rattle.evaluate.proofs.Storing.{values-none, values_step}
use Rattle.evaluate.proofs.put_values.Goals as goal

pub loop-i-init : goal.loop-i-init
loop-i-init c = values-none c.args.stores.now.old.now c.args.stores.now.new.now c.args.words.now c.args.out.now c.args.at c.args.hs.now

pub operand_value-requires : goal.operand_value-requires
operand_value-requires c = let y = all_at c.args.hs.now c.loop-i.i 0 c.requires.ready c.loop-i-test.true in record { stands = y.stands; shifted = y.shifted }

pub loop-i-preserved : goal.loop-i-preserved
loop-i-preserved c =
    ap (λ (t : List ℕ). set t (c.args.at + c.loop-i.i) c.operand_value.result) c.loop-i.invariant
    ∙ values_step c.args.stores.now.old.now c.args.stores.now.new.now c.args.words.now c.args.hs.now c.loop-i.i c.loop-i-test.true c.args.out.now c.args.at c.operand_value.result c.operand_value.ensures

pub returns : goal.returns
returns c = let e : c.loop-i.i ≡ length c.args.hs.now = omega arith in
    record { place_after = refl; values_put = c.loop-i.invariant ∙ ap (λ (hs : List ℕ). sets c.args.out.now c.args.at (values_at c.args.stores.now.old.now c.args.stores.now.new.now c.args.words.now hs)) (rw e (take-length c.args.hs.now)) }
