-- Each return is the first limit that is passed. Assumes nothing.
use native.Mathlib.Omega.{arith}
use borrow.Author.Tests.{lt-ltb, le-ltb}
use Rattle.house_file.specs.Reading.{full_fault}
use Rattle.house_scan.proofs.full.Goals as goal

pub returns-then-c-gt-MAX_DEFINITIONS-clause-fault : goal.returns-then-c-gt-MAX_DEFINITIONS-clause-fault
unfolding full_fault
returns-then-c-gt-MAX_DEFINITIONS-clause-fault c = simp (lt-ltb _ _ c.if-c-gt-MAX_DEFINITIONS.true)

pub returns-then-c-gt-MAX_OTHERS-clause-fault : goal.returns-then-c-gt-MAX_OTHERS-clause-fault
unfolding full_fault
returns-then-c-gt-MAX_OTHERS-clause-fault c = simp (le-ltb _ _ c.if-c-gt-MAX_DEFINITIONS.false, lt-ltb _ _ c.if-c-gt-MAX_OTHERS.true)

pub returns-then-c-gt-MAX_TERMS-clause-fault : goal.returns-then-c-gt-MAX_TERMS-clause-fault
unfolding full_fault
returns-then-c-gt-MAX_TERMS-clause-fault c = simp (le-ltb _ _ c.if-c-gt-MAX_DEFINITIONS.false, le-ltb _ _ c.if-c-gt-MAX_OTHERS.false, lt-ltb _ _ c.if-c-gt-MAX_TERMS.true)

pub returns-clause-fault : goal.returns-clause-fault
unfolding full_fault
returns-clause-fault c = simp (le-ltb _ _ c.if-c-gt-MAX_DEFINITIONS.false, le-ltb _ _ c.if-c-gt-MAX_OTHERS.false, le-ltb _ _ c.if-c-gt-MAX_TERMS.false)
