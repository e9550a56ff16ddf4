-- No second number, and no other values. Assumes nothing.
use mathlib.Core.Path.{◌≡◌, sym, ap, ◌∙◌}
use Prim.Native.Nat.{ℕ}
use mathlib.Core.List.{List}
use Rattle.word.specs.Answers.{Told}
use Rattle.house_file.specs.Reading.{told_read}
use Rattle.std.specs.Prelude.{Result}
use Rattle.house_file.specs.declared.FileFault.{FileFault}
use Rattle.house_file.specs.declared.FileRead.{FileRead}
use Rattle.tell.specs.Gives.{number, laid, Gives, laid_read, GivesRead}

module _ {vs : List ℕ} {r₁ r₂ : ℕ} {vs₁ vs₂ : List ℕ} where
  -- the number and the lent values are those of what is told
  pub gives_once : (t₁ t₂ : Told) → t₁ ≡ t₂ → Gives t₁ vs r₁ vs₁ → Gives t₂ vs r₂ vs₂ → (r₁ ≡ r₂) × (vs₁ ≡ vs₂)
  gives_once t₁ t₂ e x y = (x.number_is ∙ ap number e ∙ sym y.number_is, x.values_are ∙ ap (laid vs) e ∙ sym y.values_are)

  pub gives_read_once : (a₁ a₂ : Result FileRead FileFault) → a₁ ≡ a₂ → GivesRead a₁ vs r₁ vs₁ → GivesRead a₂ vs r₂ vs₂ → (r₁ ≡ r₂) × (vs₁ ≡ vs₂)
  gives_read_once a₁ a₂ e x y =
      (x.number_is ∙ ap (λ (a : Result FileRead FileFault). number (told_read a)) e ∙ sym y.number_is, x.values_are ∙ ap (laid_read vs) e ∙ sym y.values_are)
