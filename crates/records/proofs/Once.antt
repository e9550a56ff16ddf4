-- What is said of the first numbers of each kind has one answer and leaves one result, whole slices with it. Assumes nothing.
use mathlib.Core.Path.{◌≡◌, sym, ap, ap₂, ◌∙◌}
use Prim.Native.Nat.{ℕ}
use mathlib.Core.List.{List, ◌++◌}
use lib.ListN.{take, take-append-drop}
use Rattle.std.specs.Prelude.{Result, Err}
use Rattle.refusal.specs.declared.Refusal.{Refusal}
use Rattle.lower.proofs.Refusals.{number_once}
use Rattle.word.specs.Answers as T
use Rattle.word.specs.Answers.{Told}
use Rattle.lower.specs.declared.Sizes.{Sizes}
use Rattle.lower.specs.Stores.{Stores}
use Rattle.fusion.specs.Left.{Lent, lent}
use Rattle.fusion.specs.Answer.{told_fused, Fuses}
use Rattle.fusion.specs.declared.Counts.{Counts}
use Rattle.fusion.proofs.Once.{fuses_once}
use Rattle.fill_back.proofs.Once.{fills_once}
use Rattle.house_write.proofs.Once.{write_once}
use Rattle.evaluate.proofs.Once.{evaluate_once}
use Rattle.house_file.specs.declared.FileRead.{FileRead}
use Rattle.house_file.specs.declared.FileFault.{FileFault}
use Rattle.house_read.specs.Answer.{ReadIs}
use Rattle.house_read.proofs.Files.{Same, read_once}
use Rattle.records.specs.Records.{RestKept, FillsFirst, filled_first, filled_past, FusesFirst, fused_first, fused_past, WritesFirst, written_first, written_past, EvaluatesFirst, evaluated_first, evaluated_past}
use Rattle.records.proofs.Agree.{told_once}

-- a slice is its first numbers and the rest
whole_once : (n : ℕ) (l a b : List ℕ) → take n a ≡ take n b → RestKept n l a → RestKept n l b → a ≡ b
whole_once n l a b e p q = sym (take-append-drop n a) ∙ ap₂ {C = List ℕ} ◌++◌ e (p ∙ sym q) ∙ take-append-drop n b

-- ---- where records were looked at, or none
module _ (n fault : ℕ) (z : Sizes) (s : Stores) where
  pub fills_first_once : (flags ws ws₁ ws₂ : List ℕ) (r₁ r₂ : ℕ) → FillsFirst n fault z s flags ws ws₁ r₁ → FillsFirst n fault z s flags ws ws₂ r₂ → (r₁ ≡ r₂) × (ws₁ ≡ ws₂)
  fills_first_once flags ws ws₁ ws₂ r₁ r₂ (filled_first e x) (filled_first e' y) = fills_once z s flags ws ws₁ ws₂ r₁ r₂ x y
  fills_first_once flags ws ws₁ ws₂ r₁ r₂ (filled_first e x) (filled_past h p k) = absurd (h e)
  fills_first_once flags ws ws₁ ws₂ r₁ r₂ (filled_past h p k) (filled_first e y) = absurd (h e)
  fills_first_once flags ws ws₁ ws₂ r₁ r₂ (filled_past h p k) (filled_past h' p' k') = (p ∙ sym p', k ∙ sym k')

  pub writes_first_once : (out : List ℕ) (r₁ r₂ : Result ℕ Refusal) (o₁ o₂ : List ℕ) → WritesFirst n fault z s out o₁ r₁ → WritesFirst n fault z s out o₂ r₂ → (r₁ ≡ r₂) × (o₁ ≡ o₂)
  writes_first_once out r₁ r₂ o₁ o₂ (written_first e x) (written_first e' y) = write_once z s out r₁ r₂ o₁ o₂ x y
  writes_first_once out r₁ r₂ o₁ o₂ (written_first e x) (written_past h p k) = absurd (h e)
  writes_first_once out r₁ r₂ o₁ o₂ (written_past h p k) (written_first e y) = absurd (h e)
  writes_first_once out r₁ r₂ o₁ o₂ (written_past h p k) (written_past h' p' k') = (ap {B = Result ℕ Refusal} Err (number_once _ _ (p ∙ sym p')), k ∙ sym k')

  pub evaluates_first_once : (ws out : List ℕ) (r₁ r₂ : Result ℕ Refusal) (o₁ o₂ : List ℕ) → EvaluatesFirst n fault z s ws out o₁ r₁ → EvaluatesFirst n fault z s ws out o₂ r₂ → (r₁ ≡ r₂) × (o₁ ≡ o₂)
  evaluates_first_once ws out r₁ r₂ o₁ o₂ (evaluated_first e x) (evaluated_first e' y) = evaluate_once z s ws out r₁ r₂ o₁ o₂ x y
  evaluates_first_once ws out r₁ r₂ o₁ o₂ (evaluated_first e x) (evaluated_past h p k) = absurd (h e)
  evaluates_first_once ws out r₁ r₂ o₁ o₂ (evaluated_past h p k) (evaluated_first e y) = absurd (h e)
  evaluates_first_once ws out r₁ r₂ o₁ o₂ (evaluated_past h p k) (evaluated_past h' p' k') = (ap {B = Result ℕ Refusal} Err (number_once _ _ (p ∙ sym p')), k ∙ sym k')

pub fuses_first_once : (n fault slots : ℕ) (z : Sizes) (l : Lent) (t₁ t₂ : Told) (l₁ l₂ : Lent) → FusesFirst n fault slots z l l₁ t₁ → FusesFirst n fault slots z l l₂ t₂ → (t₁ ≡ t₂) × (l₁ ≡ l₂)
fuses_first_once n fault slots z l t₁ t₂ l₁ l₂ (fused_first e x) (fused_first e' y) = fuses_once slots z l t₁ t₂ l₁ l₂ x y
fuses_first_once n fault slots z l t₁ t₂ l₁ l₂ (fused_first e x) (fused_past h p k) = absurd (h e)
fuses_first_once n fault slots z l t₁ t₂ l₁ l₂ (fused_past h p k) (fused_first e y) = absurd (h e)
fuses_first_once n fault slots z l t₁ t₂ l₁ l₂ (fused_past h p k) (fused_past h' p' k') = (ap T.refused (p ∙ sym p'), k ∙ sym k')

-- ---- the contracts of the two that fuse: by the first m numbers of each kind, and the rest is as it was
abbrev front : ℕ → Lent → Lent
front m l = lent l.old l.new l.ands l.imuls l.bmuls l.zeros (take m l.dsts) (take m l.rhss) l.flags

abbrev RestsKept : ℕ → Lent → Lent → Type 0
RestsKept m l l' = (RestKept m l.dsts l'.dsts) × (RestKept m l.rhss l'.rhss)

-- what is lent, with other numbers of definitions
abbrev with_numbers : List ℕ → List ℕ → Lent → Lent
with_numbers dsts rhss l = lent l.old l.new l.ands l.imuls l.bmuls l.zeros dsts rhss l.flags

module _ (m : ℕ) (l l₁ l₂ : Lent) (rests₁ : RestsKept m l l₁) (rests₂ : RestsKept m l l₂) where
  lent_whole : front m l₁ ≡ front m l₂ → l₁ ≡ l₂
  lent_whole e =
      ap (with_numbers l₁.dsts l₁.rhss) e
      ∙ ap₂ {C = Lent} (λ (d h : List ℕ). with_numbers d h l₂) (whole_once m l.dsts l₁.dsts l₂.dsts (ap (λ (x : Lent). x.dsts) e) rests₁.0 rests₂.0)
      (whole_once m l.rhss l₁.rhss l₂.rhss (ap (λ (x : Lent). x.rhss) e) rests₁.1 rests₂.1)

  module _ (slots : ℕ) (z : Sizes) (r₁ r₂ : Result Counts Refusal) where
    pub fuse_numbers_once : Fuses slots z (front m l) (front m l₁) (told_fused r₁) → Fuses slots z (front m l) (front m l₂) (told_fused r₂) → (r₁ ≡ r₂) × (l₁ ≡ l₂)
    fuse_numbers_once x y =
        let p = fuses_once slots z (front m l) (told_fused r₁) (told_fused r₂) (front m l₁) (front m l₂) x y in (told_once r₁ r₂ p.0, lent_whole p.1)

    pub fuse_first_once : (n fault : ℕ) → FusesFirst n fault slots z (front m l) (front m l₁) (told_fused r₁) → FusesFirst n fault slots z (front m l) (front m l₂) (told_fused r₂) → (r₁ ≡ r₂) × (l₁ ≡ l₂)
    fuse_first_once n fault x y =
        let p = fuses_first_once n fault slots z (front m l) (told_fused r₁) (told_fused r₂) (front m l₁) (front m l₂) x y in (told_once r₁ r₂ p.0, lent_whole p.1)

-- ---- the contract of reading to the first m numbers of each kind
module _ (m : ℕ) (s terms ands imuls bmuls zeros dsts rhss : List ℕ) (r₁ r₂ : Result FileRead FileFault) where
  pub read_numbers_once : (t₁ a₁ i₁ b₁ o₁ d₁ h₁ t₂ a₂ i₂ b₂ o₂ d₂ h₂ : List ℕ)
      → (ReadIs s terms ands imuls bmuls zeros (take m dsts) (take m rhss) r₁ t₁ a₁ i₁ b₁ o₁ (take m d₁) (take m h₁)) × (RestKept m dsts d₁) × (RestKept m rhss h₁)
      → (ReadIs s terms ands imuls bmuls zeros (take m dsts) (take m rhss) r₂ t₂ a₂ i₂ b₂ o₂ (take m d₂) (take m h₂)) × (RestKept m dsts d₂) × (RestKept m rhss h₂)
      → Same r₁ r₂ t₁ a₁ i₁ b₁ o₁ d₁ h₁ t₂ a₂ i₂ b₂ o₂ d₂ h₂
  read_numbers_once t₁ a₁ i₁ b₁ o₁ d₁ h₁ t₂ a₂ i₂ b₂ o₂ d₂ h₂ x y =
      let p : Same r₁ r₂ t₁ a₁ i₁ b₁ o₁ (take m d₁) (take m h₁) t₂ a₂ i₂ b₂ o₂ (take m d₂) (take m h₂) =
      read_once r₁ r₂ t₁ a₁ i₁ b₁ o₁ (take m d₁) (take m h₁) t₂ a₂ i₂ b₂ o₂ (take m d₂) (take m h₂) x.0 y.0 in
      record {
        answers = p.answers;
        terms_same = p.terms_same;
        ands_same = p.ands_same;
        imuls_same = p.imuls_same;
        bmuls_same = p.bmuls_same;
        zeros_same = p.zeros_same;
        dsts_same = whole_once m dsts d₁ d₂ p.dsts_same x.1 y.1;
        rhss_same = whole_once m rhss h₁ h₂ p.rhss_same x.2 y.2;
      }
