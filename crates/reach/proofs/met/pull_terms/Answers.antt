-- The store with the terms that are left taken in is the whole. Assumes nothing.
use Rattle.reach.proofs.Pulling.{pull_go, pull_end}
use Rattle.reach.specs.Steps.{pull_terms, Usable}
use Rattle.commit_set.proofs.Members.{all_get}
use Rattle.operand.specs.Numbers.{term_of}
use lib.ListN.{length, drop, get_or}
use Prim.Native.Nat.{ℕ, ◌+◌}
use mathlib.Core.List.{map}
use mathlib.Core.Path.{refl, sym, ap, ◌∙◌, subst}
use Rattle.reach.proofs.met.pull_terms.Goals as goal

pub loop-t-init : goal.loop-t-init
loop-t-init c = refl

pub pull_term-requires : goal.pull_term-requires
pull_term-requires c = subst (λ (n : ℕ). Usable n (term_of (get_or c.args.ts.now c.loop-t.t-index 0))) (sym c.loop-t.auto.masks) (all_get (λ (t : ℕ). Usable (length c.args.masks.now) (term_of t)) c.args.ts.now c.loop-t.t-index 0 c.requires c.loop-t-test.true)

pub loop-t-preserved : goal.loop-t-preserved
loop-t-preserved c =
    ap (pull_terms c.args.m (map term_of (drop (c.loop-t.t-index + 1) c.args.ts.now))) c.pull_term.ensures ∙ sym (pull_go c.args.m c.args.ts.now c.loop-t.masks c.loop-t.t-index c.loop-t-test.true) ∙ c.loop-t.invariant

pub returns : goal.returns
returns c = sym (pull_end c.args.m c.args.ts.now c.loop-t.masks c.loop-t.t-index c.loop-t-test.false) ∙ c.loop-t.invariant
