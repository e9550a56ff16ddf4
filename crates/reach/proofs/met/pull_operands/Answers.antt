-- The store with the operands that are left taken in is the whole. Assumes nothing.
use Rattle.reach.proofs.Pulling.{operand_terms, operand_usable, operands_go, operands_end}
use Rattle.reach.specs.Steps.{pull_terms, pull_operands, Usable}
use Rattle.commit_set.proofs.Members.{all_get}
use Rattle.lower.specs.Stores.{Stands}
use mathlib.Core.List.{List}
use Rattle.lower.specs.Lists.{All}
use Rattle.alive.specs.Masks.{ones}
use Rattle.operand.specs.Numbers.{Operand, operand_of}
use lib.ListN.{length, drop, get_or}
use Prim.Native.Nat.{ℕ, ◌+◌}
use mathlib.Core.Path.{refl, sym, ap, ◌∙◌, subst}
use Rattle.reach.proofs.met.pull_operands.Goals as goal

pub loop-h-init : goal.loop-h-init
loop-h-init c = refl

pub terms-requires : goal.terms-requires
terms-requires c = all_get (Stands c.args.stores.now.old.now c.args.stores.now.new.now) c.args.hs.now c.loop-h.h-index 0 c.requires.standing c.loop-h-test.true

pub pull_terms-requires : goal.pull_terms-requires
pull_terms-requires c = operand_usable c.args.stores.now.old.now c.args.stores.now.new.now (get_or c.args.hs.now c.loop-h.h-index 0) c.terms.result.now c.terms.ensures _
    (subst (λ (k : ℕ). All (Usable k) (operand_of c.args.stores.now.old.now c.args.stores.now.new.now (get_or c.args.hs.now c.loop-h.h-index 0))) (sym c.loop-h.auto.masks) (all_get (λ (h : ℕ). All (Usable (length c.args.masks.now)) (operand_of c.args.stores.now.old.now c.args.stores.now.new.now h)) c.args.hs.now c.loop-h.h-index 0 c.requires.usable c.loop-h-test.true))

pub loop-h-preserved : goal.loop-h-preserved
loop-h-preserved c =
    let old : List ℕ = c.args.stores.now.old.now in
    let new : List ℕ = c.args.stores.now.new.now in
    ap (pull_operands old new (drop (c.loop-h.h-index + 1) c.args.hs.now))
    (c.pull_terms.ensures ∙ ap (λ (o : Operand). pull_terms ones o c.loop-h.masks) (operand_terms old new (get_or c.args.hs.now c.loop-h.h-index 0) c.terms.result.now c.terms.ensures))
    ∙ sym (operands_go old new c.args.hs.now c.loop-h.masks c.loop-h.h-index c.loop-h-test.true) ∙ c.loop-h.invariant

pub returns : goal.returns
returns c = sym (operands_end c.args.stores.now.old.now c.args.stores.now.new.now c.args.hs.now c.loop-h.masks c.loop-h.h-index c.loop-h-test.false) ∙ c.loop-h.invariant
