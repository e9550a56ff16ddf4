-- What is displayed is what stands in a line. Assumes nothing.
use mathlib.Core.Path.{◌≡◌, refl, sym, ap, ◌∙◌}
use Prim.Native.Nat.{ℕ, ◌+◌, ◌%◌, ◌^◌, ◌<◌}
use mathlib.Core.List.{List, [], ◌∷◌, ◌++◌, append_assoc}
use Rattle.std.specs.Fmt as F
use Rattle.std.proofs.lemmas.Fmt.{decimal_by_steps}
use Rattle.refusal.specs.Refusals.{number_of}
use Rattle.text.specs.Decimal.{decimal}
use Rattle.text.specs.Text.{NEWLINE, REFUSED, AT, refused_text, refused_at_text}
use Rattle.text.proofs.Decimals.{decimal_one, decimal-more}
use Rattle.report.specs.declared.outcome.Fault.{Fault}
use Rattle.report.specs.declared.outcome.Fault.TheVariants.{Unread, Refused}
use Rattle.report.specs.Outcome.{display_text}
use Rattle.report.specs.File.{fault_text}

-- the digits that the library displays
pub display_digits : (n : ℕ) → n < 2 ^ 64 → F.decimal n ≡ decimal n
display_digits n h =
    sym (decimal_by_steps (λ m ds. decimal m ≡ ds) decimal_one (λ m ds l e. decimal-more m l ∙ ap (λ (xs : List ℕ). xs ++ ((48 + m % 10) ∷ [])) e) n h)

-- the line of `fuse` is what is displayed, between "refused " and a newline
pub line_displays : (f : Fault) → fault_text f ≡ REFUSED ++ (display_text f ++ (NEWLINE ∷ []))
unfolding refused_at_text refused_text
line_displays (Unread f) = ap (λ (l : List ℕ). REFUSED ++ l) (sym (append_assoc (decimal (number_of f.refusal)) (AT ++ decimal f.at) (NEWLINE ∷ [])))
line_displays (Refused r) = refl
