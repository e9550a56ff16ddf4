-- Each exported function has one answer: no second number, and nothing else left in what was lent. Assumes nothing.
--
-- Composing and pushing give what `Gives` says of an equation's Told; filling back has `fills_once` of its crate.
use mathlib.Core.Path.{◌≡◌, ap}
use Prim.Native.Nat.{ℕ}
use mathlib.Core.List.{List}
use Rattle.lower.specs.declared.Sizes.{Sizes}
use Rattle.lower.specs.Stores.{Stores}
use Rattle.house_read.proofs.Files.{Same, read_once}
use Rattle.house_write.specs.Write.{told_written}
use Rattle.house_write.proofs.Once.{write_once}
use Rattle.fusion.specs.Left.{Lent}
use Rattle.fusion.proofs.Once.{fuses_once}
use Rattle.evaluate.specs.Evaluation.{told_evaluated}
use Rattle.evaluate.proofs.Once.{evaluate_once}
use Rattle.tell.proofs.Once.{gives_once, gives_read_once}
use Rattle.tiwzerand.specs.Exported.{Reads, Writes, FusesTo, Evaluates}

-- all that reading leaves
pub record SameRead (r₁ r₂ : ℕ) (t a i b o d h vs t₂ a₂ i₂ b₂ o₂ d₂ h₂ vs₂ : List ℕ) : Type 0 where
  pub numbers : r₁ ≡ r₂
  pub terms_same : t ≡ t₂
  pub ands_same : a ≡ a₂
  pub imuls_same : i ≡ i₂
  pub bmuls_same : b ≡ b₂
  pub zeros_same : o ≡ o₂
  pub dsts_same : d ≡ d₂
  pub rhss_same : h ≡ h₂
  pub values_same : vs ≡ vs₂

pub reads_once : {s terms ands imuls bmuls zeros dsts rhss vs : List ℕ} (r₁ r₂ : ℕ) (t a i b o d h vs₁ t₂ a₂ i₂ b₂ o₂ d₂ h₂ vs₂ : List ℕ)
    → Reads s terms ands imuls bmuls zeros dsts rhss vs r₁ t a i b o d h vs₁ → Reads s terms ands imuls bmuls zeros dsts rhss vs r₂ t₂ a₂ i₂ b₂ o₂ d₂ h₂ vs₂
    → SameRead r₁ r₂ t a i b o d h vs₁ t₂ a₂ i₂ b₂ o₂ d₂ h₂ vs₂
reads_once r₁ r₂ t a i b o d h vs₁ t₂ a₂ i₂ b₂ o₂ d₂ h₂ vs₂ x y =
    let p : Same x.answer y.answer t a i b o d h t₂ a₂ i₂ b₂ o₂ d₂ h₂ = read_once x.answer y.answer t a i b o d h t₂ a₂ i₂ b₂ o₂ d₂ h₂ x.reads y.reads in
    let q = gives_read_once x.answer y.answer p.answers x.gives y.gives in
    record {
      numbers = q.0;
      terms_same = p.terms_same;
      ands_same = p.ands_same;
      imuls_same = p.imuls_same;
      bmuls_same = p.bmuls_same;
      zeros_same = p.zeros_same;
      dsts_same = p.dsts_same;
      rhss_same = p.rhss_same;
      values_same = q.1;
    }

pub fuses_to_once : {slots : ℕ} {z : Sizes} {l : Lent} {vs : List ℕ} (r₁ r₂ : ℕ) (l₁ l₂ : Lent) (vs₁ vs₂ : List ℕ)
    → FusesTo slots z l l₁ vs r₁ vs₁ → FusesTo slots z l l₂ vs r₂ vs₂ → (r₁ ≡ r₂) × (l₁ ≡ l₂) × (vs₁ ≡ vs₂)
fuses_to_once {slots} {z} {l} r₁ r₂ l₁ l₂ vs₁ vs₂ x y =
    let p = fuses_once slots z l x.told y.told l₁ l₂ x.fuses y.fuses in
    let q = gives_once x.told y.told p.0 x.gives y.gives in
    (q.0, p.1, q.1)

module _ {z : Sizes} {s : Stores} {vs : List ℕ} where
  pub writes_once : {out : List ℕ} (r₁ r₂ : ℕ) (o₁ o₂ vs₁ vs₂ : List ℕ) → Writes z s out vs r₁ o₁ vs₁ → Writes z s out vs r₂ o₂ vs₂ → (r₁ ≡ r₂) × (o₁ ≡ o₂) × (vs₁ ≡ vs₂)
  writes_once {out} r₁ r₂ o₁ o₂ vs₁ vs₂ x y =
      let p = write_once z s out x.answer y.answer o₁ o₂ x.writes y.writes in
      let q = gives_once (told_written x.answer) (told_written y.answer) (ap told_written p.0) x.gives y.gives in
      (q.0, p.1, q.1)

  pub evaluates_once : {ws out : List ℕ} (r₁ r₂ : ℕ) (o₁ o₂ vs₁ vs₂ : List ℕ) → Evaluates z s ws out vs r₁ o₁ vs₁ → Evaluates z s ws out vs r₂ o₂ vs₂
      → (r₁ ≡ r₂) × (o₁ ≡ o₂) × (vs₁ ≡ vs₂)
  evaluates_once {ws} {out} r₁ r₂ o₁ o₂ vs₁ vs₂ x y =
      let p = evaluate_once z s ws out x.answer y.answer o₁ o₂ x.evaluates y.evaluates in
      let q = gives_once (told_evaluated x.answer) (told_evaluated y.answer) (ap told_evaluated p.0) x.gives y.gives in
      (q.0, p.1, q.1)
