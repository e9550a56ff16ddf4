-- The masks so far and those of the terms that are left, joined, are the whole. Assumes nothing.
use Rattle.reach.proofs.Storing.{or_step, or_end}
use Rattle.commit_set.proofs.Members.{all_get}
use Rattle.reach.specs.Steps.{mask_at, Usable}
use Rattle.reach.specs.Alive.{or_all, through}
use Rattle.operand.specs.Numbers.{term_of}
use Rattle.std.specs.Int.Bits.{bit_or, or_zero_l}
use lib.ListN.{length, drop}
use Prim.Native.Nat.{ℕ, ◌+◌}
use mathlib.Core.Path.{sym, ap, ◌∙◌}
use Rattle.reach.proofs.written.operand_mask.Goals as goal

pub loop-t-init : goal.loop-t-init
loop-t-init c = or_zero_l _

pub term_mask-all-requires : goal.term_mask-all-requires
term_mask-all-requires c = all_get (λ (t : ℕ). Usable (length c.args.masks.now) (term_of t)) c.args.ts.now c.loop-t.t-index 0 c.requires c.loop-t-test.true

pub loop-t-preserved : goal.loop-t-preserved
loop-t-preserved c =
    let f : ℕ → ℕ = λ (t : ℕ). through (mask_at c.args.masks.now) (term_of t) in
    ap (λ (x : ℕ). bit_or (bit_or c.loop-t.all x) (or_all f (drop (c.loop-t.t-index + 1) c.args.ts.now))) c.term_mask-all.ensures
    ∙ or_step f c.args.ts.now c.loop-t.t-index c.loop-t.all c.loop-t-test.true ∙ c.loop-t.invariant

pub returns : goal.returns
returns c = sym (or_end (λ (t : ℕ). through (mask_at c.args.masks.now) (term_of t)) c.args.ts.now c.loop-t.t-index c.loop-t.all c.loop-t-test.false) ∙ c.loop-t.invariant
