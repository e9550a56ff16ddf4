-- The four lists one after the other are the operands of all constraints. Assumes nothing.
use Rattle.reach.proofs.Theorem.{rows_chain}
use Rattle.reach.specs.Steps.{Pullable}
use Prim.Native.Nat.{ℕ, ◌*◌}
use mathlib.Core.Path.{sym, ◌∙◌, subst}
use Rattle.reach.proofs.pull_rows.Goals as goal

pub pull_operands-requires-2-clause-usable : goal.pull_operands-requires-2-clause-usable
pull_operands-requires-2-clause-usable c = (subst (λ (k : ℕ). Pullable c.args.system.now.stores.old.now c.args.system.now.stores.new.now k c.args.system.now.imuls.now (4 * c.args.system.now.sizes.imuls)) (sym c.pull_operands.auto.masks) c.requires.imuls_pullable).fit

pub pull_operands-requires-3-clause-usable : goal.pull_operands-requires-3-clause-usable
pull_operands-requires-3-clause-usable c = (subst (λ (k : ℕ). Pullable c.args.system.now.stores.old.now c.args.system.now.stores.new.now k c.args.system.now.bmuls.now (6 * c.args.system.now.sizes.bmuls)) (sym (c.pull_operands-2.auto.masks ∙ c.pull_operands.auto.masks)) c.requires.bmuls_pullable).fit

pub pull_operands-requires-4-clause-usable : goal.pull_operands-requires-4-clause-usable
pull_operands-requires-4-clause-usable c = (subst (λ (k : ℕ). Pullable c.args.system.now.stores.old.now c.args.system.now.stores.new.now k c.args.system.now.zeros.now c.args.system.now.sizes.zeros) (sym (c.pull_operands-3.auto.masks ∙ c.pull_operands-2.auto.masks ∙ c.pull_operands.auto.masks)) c.requires.zeros_pullable).fit

pub returns : goal.returns
returns c = let s = c.args.system.now in rows_chain s.sizes s.stores.old.now s.stores.new.now s.ands.now s.imuls.now s.bmuls.now s.zeros.now c.args.masks.now _ _ _ _ c.pull_operands.ensures c.pull_operands-2.ensures c.pull_operands-3.ensures c.pull_operands-4.ensures
