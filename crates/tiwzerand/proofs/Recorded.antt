-- Over records too each function has one answer, and leaves the records whose numbers the function over numbers leaves. Writing, evaluating
-- and filling back leave the records, and the theorems of `Once` are theirs as they stand. Assumes nothing.
use mathlib.Core.Path.{◌≡◌, ap}
use Prim.Native.Nat.{ℕ}
use mathlib.Core.List.{List}
use Rattle.lower.specs.declared.Sizes.{Sizes}
use Rattle.fusion.specs.Left.{Lent, lent}
use Rattle.records.specs.declared.Definition.{Definition}
use Rattle.records.specs.Records.{dsts_of, rhss_of, lent_by}
use Rattle.records.proofs.Agree.{records_same}
use Rattle.tiwzerand.specs.Exported.{Reads, FusesTo}
use Rattle.tiwzerand.proofs.Once.{SameRead, reads_once, fuses_to_once}

module _ {slots : ℕ} {z : Sizes} {old new ands imuls bmuls zeros : List ℕ} (ds : List Definition) {flags vs : List ℕ} (r₁ r₂ : ℕ) where
  -- no second number, value or record
  pub fused_records_once : (n a i b o : List ℕ) (d : List Definition) (f vs₁ n₂ a₂ i₂ b₂ o₂ : List ℕ) (d₂ : List Definition) (f₂ vs₂ : List ℕ)
      → FusesTo slots z (lent_by old new ands imuls bmuls zeros ds flags) (lent_by old n a i b o d f) vs r₁ vs₁
      → FusesTo slots z (lent_by old new ands imuls bmuls zeros ds flags) (lent_by old n₂ a₂ i₂ b₂ o₂ d₂ f₂) vs r₂ vs₂
      → (r₁ ≡ r₂) × (lent_by old n a i b o d f ≡ lent_by old n₂ a₂ i₂ b₂ o₂ d₂ f₂) × (d ≡ d₂) × (vs₁ ≡ vs₂)
  fused_records_once n a i b o d f vs₁ n₂ a₂ i₂ b₂ o₂ d₂ f₂ vs₂ x y =
      let p = fuses_to_once r₁ r₂ (lent_by old n a i b o d f) (lent_by old n₂ a₂ i₂ b₂ o₂ d₂ f₂) vs₁ vs₂ x y in
      (p.0, p.1, records_same d d₂ (ap (λ (l : Lent). l.dsts) p.1) (ap (λ (l : Lent). l.rhss) p.1), p.2)

  -- the function over the records' numbers gives the same, and leaves the numbers of the records left
  pub fused_agrees : (n a i b o : List ℕ) (d : List Definition) (f vs₁ : List ℕ) (l : Lent) (vs₂ : List ℕ)
      → FusesTo slots z (lent_by old new ands imuls bmuls zeros ds flags) (lent_by old n a i b o d f) vs r₁ vs₁
      → FusesTo slots z (lent old new ands imuls bmuls zeros (dsts_of ds) (rhss_of ds) flags) l vs r₂ vs₂ → (r₁ ≡ r₂) × (lent_by old n a i b o d f ≡ l) × (vs₁ ≡ vs₂)
  fused_agrees n a i b o d f vs₁ l vs₂ x y = fuses_to_once r₁ r₂ (lent_by old n a i b o d f) l vs₁ vs₂ x y

module _ {s terms ands imuls bmuls zeros : List ℕ} (ds : List Definition) {vs : List ℕ} (r₁ r₂ : ℕ) where
  pub read_agrees : (t a i b o : List ℕ) (d : List Definition) (vs₁ t₂ a₂ i₂ b₂ o₂ d₂ h₂ vs₂ : List ℕ)
      → Reads s terms ands imuls bmuls zeros (dsts_of ds) (rhss_of ds) vs r₁ t a i b o (dsts_of d) (rhss_of d) vs₁
      → Reads s terms ands imuls bmuls zeros (dsts_of ds) (rhss_of ds) vs r₂ t₂ a₂ i₂ b₂ o₂ d₂ h₂ vs₂ → SameRead r₁ r₂ t a i b o (dsts_of d) (rhss_of d) vs₁ t₂ a₂ i₂ b₂ o₂ d₂ h₂ vs₂
  read_agrees t a i b o d vs₁ t₂ a₂ i₂ b₂ o₂ d₂ h₂ vs₂ x y = reads_once r₁ r₂ t a i b o (dsts_of d) (rhss_of d) vs₁ t₂ a₂ i₂ b₂ o₂ d₂ h₂ vs₂ x y

  -- no second record
  pub read_records_once : (t a i b o : List ℕ) (d : List Definition) (vs₁ t₂ a₂ i₂ b₂ o₂ : List ℕ) (d₂ : List Definition) (vs₂ : List ℕ)
      → Reads s terms ands imuls bmuls zeros (dsts_of ds) (rhss_of ds) vs r₁ t a i b o (dsts_of d) (rhss_of d) vs₁
      → Reads s terms ands imuls bmuls zeros (dsts_of ds) (rhss_of ds) vs r₂ t₂ a₂ i₂ b₂ o₂ (dsts_of d₂) (rhss_of d₂) vs₂ → d ≡ d₂
  read_records_once t a i b o d vs₁ t₂ a₂ i₂ b₂ o₂ d₂ vs₂ x y =
      let p = read_agrees t a i b o d vs₁ t₂ a₂ i₂ b₂ o₂ (dsts_of d₂) (rhss_of d₂) vs₂ x y in records_same d d₂ p.dsts_same p.rhss_same
