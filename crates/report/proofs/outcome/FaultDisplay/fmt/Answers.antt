-- The text of each case. Assumes nothing.
use mathlib.Core.Path.{sym, ap, ap₂, ◌∙◌}
use native.Mathlib.Omega.{arith}
use mathlib.Core.List.{List, ◌++◌}
use Prim.Native.Nat.{ℕ}
use Rattle.std.proofs.Output.{has_written_of_eq}
use Rattle.text.specs.Decimal.{decimal}
use Rattle.text.specs.Text.{AT}
use Rattle.report.specs.Outcome.{display_text}
use Rattle.report.proofs.Displayed.{display_digits}
use Rattle.report.proofs.outcome.FaultDisplay.fmt.Goals as goal

pub returns-in-Unread-clause-writes : goal.returns-in-Unread-clause-writes
returns-in-Unread-clause-writes g c =
    let text = ap₂ (λ (n at : List ℕ). n ++ (AT ++ at)) (display_digits c.number.result (omega (arith, c.number.type_inv)) ∙ ap decimal c.number.ensures) (display_digits c.in-Unread.fault.at (omega arith)) in
    λ plain ok. has_written_of_eq _ _ _ _ _ (text ∙ ap display_text (sym c.in-Unread.is)) (c.write.ensures.writes plain ok)

pub returns-in-Refused-clause-writes : goal.returns-in-Refused-clause-writes
returns-in-Refused-clause-writes g c =
    let text = display_digits c.number-in-Refused.result (omega (arith, c.number-in-Refused.type_inv)) ∙ ap decimal c.number-in-Refused.ensures in
    λ plain ok. has_written_of_eq _ _ _ _ _ (text ∙ ap display_text (sym c.in-Refused.is)) (c.write-in-Refused.ensures.writes plain ok)
