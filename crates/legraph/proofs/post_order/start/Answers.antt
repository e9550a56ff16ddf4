-- A definition is entered by the ways of the walk: a circle, a new one, one that is met. Assumes nothing.
use Rattle.legraph.proofs.Walks.{enter_circle, enter_new, enter_met}
use Rattle.legraph.specs.Walked.{visit as visitOf}
use native.Mathlib.Omega.{arith}
use mathlib.Core.Path.{refl, ◌∙◌}
use Rattle.legraph.proofs.post_order.start.Goals as goal

pub returns-then-c : goal.returns-then-c
returns-then-c c = record { walks = λ f le. enter_circle _ _ _ _ refl c.if-c.true; no_mark_lost = omega arith }

pub bounds-marks-d : goal.bounds-marks-d
bounds-marks-d c = c.requires.there.0

pub visit-requires : goal.visit-requires
visit-requires c = record { sound = c.requires.sound; there = c.requires.there; not_met = c.if-m-eq0.true }

pub returns-then-m-eq0 : goal.returns-then-m-eq0
returns-then-m-eq0 c = record { walks = λ f le. c.visit.ensures.walks f le ∙ enter_new (visitOf f _ _) _ _ _ refl c.if-c.false c.if-m-eq0.true; no_mark_lost = c.visit.ensures.no_mark_lost }

pub returns : goal.returns
returns c = record { walks = λ f le. enter_met _ _ _ _ refl c.if-c.false _ c.if-m-eq0.false refl; no_mark_lost = omega arith }
