-- The search is over the uses and terms that the definition names. Assumes nothing.
use mathlib.Core.Path.{sym, ap, ◌∙◌, subst}
use Prim.Native.Nat.{ℕ}
use native.Mathlib.Omega.{arith}
use lib.ListN.{set}
use Rattle.commit_set.specs.Steps.{Held, held_by}
use Rattle.commit_set.specs.Numbers.{decision_number, Packs}
use Rattle.commit_set.proofs.Stepping.{decided_is, terms_length}
use Rattle.commit_set.proofs.steps.UseLists.decide_one.Goals as goal

pub bounds-self-i : goal.bounds-self-i
bounds-self-i c = c.requires.right_side

pub terms-ts-requires : goal.terms-ts-requires
terms-ts-requires c = c.requires.stands

pub bounds-self-i-2 : goal.bounds-self-i-2
bounds-self-i-2 c = c.requires.list

pub decide-decision-requires : goal.decide-decision-requires
decide-decision-requires c = let h : Held = held_by c.args.self.now in
    (omega (arith, terms_length c.args.slots h c.args.decisions.now c.terms-ts.result.now c.args.d.0 c.terms-ts.ensures, c.requires.few_terms), c.requires.few_uses, c.requires.linked)

pub number-requires : goal.number-requires
number-requires c = let h : Held = held_by c.args.self.now in
    subst Packs (sym (c.decide-decision.ensures ∙ decided_is c.args.slots h c.args.decisions.now c.terms-ts.result.now c.args.d.0 c.terms-ts.ensures)) c.requires.packs

pub bounds-decisions-i : goal.bounds-decisions-i
bounds-decisions-i c = c.requires.place

pub returns : goal.returns
returns c = let h : Held = held_by c.args.self.now in
    ap (λ (v : ℕ). set c.args.decisions.now c.args.d.0 v) (c.number.ensures ∙ ap decision_number (c.decide-decision.ensures ∙ decided_is c.args.slots h c.args.decisions.now c.terms-ts.result.now c.args.d.0 c.terms-ts.ensures))
