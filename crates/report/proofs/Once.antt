-- One line, one file: no second answer satisfies a contract. Assumes nothing.
use mathlib.Core.Path.{◌≡◌, refl, sym, ap, ◌∙◌, subst}
use Prim.Native.Nat.{ℕ}
use native.Mathlib.Omega.{arith}
use mathlib.Core.List.{List}
use Rattle.std.specs.Prelude.{Result, Ok, Err}
use Rattle.refusal.specs.declared.Refusal.{Refusal}
use Rattle.refusal.specs.Refusals.{number_of}
use Rattle.word.specs.Answers as T
use Rattle.word.specs.Answers.{Told}
use Rattle.lower.specs.declared.Sizes.{Sizes}
use Rattle.lower.proofs.Refusals.{number_once}
use Rattle.house_file.specs.declared.FileFault.{FileFault}
use Rattle.house_file.specs.declared.FileRead.{FileRead}
use Rattle.house_read.proofs.Files.{read_once}
use Rattle.house_write.proofs.Once.{write_once}
use Rattle.fusion.specs.Left.{Lent, lent, output}
use Rattle.fusion.specs.Answer.{told_fused, Fuses}
use Rattle.fusion.proofs.Once.{fuses_once}
use Rattle.text.specs.Text.{Puts}
use Rattle.text.proofs.Once.{puts_once}
use Rattle.report.specs.declared.outcome.FusedSystem.{FusedSystem}
use Rattle.report.specs.declared.outcome.Fault.{Fault}
use Rattle.report.specs.declared.FusedFile.{FusedFile}
use Rattle.report.specs.Outcome.{made, ReadLent, Comes, unread, unfused, fused, told_outcome}
use Rattle.report.specs.Report.{RESULT_TERMS, line_of, Answered, Reports, long, answers, Reported}
use Rattle.report.specs.File as L
use Rattle.report.specs.File.{told_file, WritesFile, WritesOut, FusesFile}
use Rattle.report.proofs.Coming.{told_once}

-- ---- reading and fusing

same-lent : (o n a i b z d h f o₂ n₂ a₂ i₂ b₂ z₂ d₂ h₂ f₂ : List ℕ) → o ≡ o₂ → n ≡ n₂ → a ≡ a₂ → i ≡ i₂ → b ≡ b₂ → z ≡ z₂ → d ≡ d₂ → h ≡ h₂ → f ≡ f₂
    → lent o n a i b z d h f ≡ lent o₂ n₂ a₂ i₂ b₂ z₂ d₂ h₂ f₂
same-lent o n a i b z d h f o₂ n₂ a₂ i₂ b₂ z₂ d₂ h₂ f₂ p q r s t u v w x = rw (p, q, r, s, t, u, v, w, x)

pub read_lent_once : {bytes : List ℕ} {l l₁ l₂ : Lent} {r₁ r₂ : Result FileRead FileFault} → ReadLent bytes l r₁ l₁ → ReadLent bytes l r₂ l₂ → (r₁ ≡ r₂) × (l₁ ≡ l₂)
read_lent_once {bytes} {l} {l₁} {l₂} {r₁} {r₂} a b =
    let s = read_once r₁ r₂ _ _ _ _ _ _ _ _ _ _ _ _ _ _ a.reads b.reads in (
      s.answers,
      same-lent _ _ _ _ _ _ _ _ _ _ _ _ _ _ _ _ _ _ s.terms_same (a.new_same ∙ sym b.new_same) s.ands_same s.imuls_same s.bmuls_same s.zeros_same s.dsts_same s.rhss_same
          (a.flags_same ∙ sym b.flags_same),
    )

module _ (slots : ℕ) where
  fuses_same : {z₁ z₂ : Sizes} {m₁ m₂ l₁ l₂ : Lent} {t₁ t₂ : Told} → z₁ ≡ z₂ → m₁ ≡ m₂ → Fuses slots z₁ m₁ l₁ t₁ → Fuses slots z₂ m₂ l₂ t₂ → (t₁ ≡ t₂) × (l₁ ≡ l₂)
  fuses_same {z₁} {z₂} {m₁} {m₂} {l₁} {l₂} {t₁} {t₂} p q f g =
      fuses_once slots z₂ m₂ t₁ t₂ l₁ l₂ (subst (λ (m : Lent). Fuses slots z₂ m l₁ t₁) q (subst (λ (z : Sizes). Fuses slots z m₁ l₁ t₁) p f)) g

  module _ (bytes : List ℕ) (l : Lent) where
    -- what is refused by the reader is not read
    differ : {f : FileFault} {x : FileRead} {l₁ l₂ : Lent} → ReadLent bytes l (Err f) l₁ → ReadLent bytes l (Ok x) l₂ → ⊥
    differ a b = let e = (read_lent_once a b).0 in let x : ◌≡◌ {A = ℕ} 0 1 = cc in omega arith

    same-read : {x₁ x₂ : FileRead} {l₁ l₂ : Lent} → ReadLent bytes l (Ok x₁) l₁ → ReadLent bytes l (Ok x₂) l₂ → (x₁ ≡ x₂) × (l₁ ≡ l₂)
    same-read a b = let e = read_lent_once a b in (let h = e.0 in cc, e.1)

    pub comes_once : (o₁ o₂ : Result FusedSystem Fault) (l₁ l₂ : Lent) → Comes slots bytes l o₁ l₁ → Comes slots bytes l o₂ l₂ → (o₁ ≡ o₂) × (l₁ ≡ l₂)
    unfolding told_fused
    comes_once o₁ o₂ l₁ l₂ (unread a) (unread b) = let e = read_lent_once a b in (let h = e.0 in cc, e.1)
    comes_once o₁ o₂ l₁ l₂ (unread a) (unfused b f) = absurd (differ a b)
    comes_once o₁ o₂ l₁ l₂ (unread a) (fused b f) = absurd (differ a b)
    comes_once o₁ o₂ l₁ l₂ (unfused a f) (unread b) = absurd (differ b a)
    comes_once o₁ o₂ l₁ l₂ (fused a f) (unread b) = absurd (differ b a)
    comes_once o₁ o₂ l₁ l₂ (unfused {r = r₁} a f) (unfused {r = r₂} b g) =
        let e = same-read a b in
        let h = fuses_same (ap (λ (x : FileRead). x.sizes) e.0) e.1 f g in
        let n : number_of r₁ ≡ number_of r₂ = let k = h.0 in cc in
        let r : r₁ ≡ r₂ = number_once r₁ r₂ n in (cc, h.1)
    comes_once o₁ o₂ l₁ l₂ (unfused a f) (fused b g) =
        let e = same-read a b in
        let h = (fuses_same (ap (λ (x : FileRead). x.sizes) e.0) e.1 f g).0 in
        absurd (let x : ◌≡◌ {A = ℕ} 0 1 = cc in omega arith)
    comes_once o₁ o₂ l₁ l₂ (fused a f) (unfused b g) =
        let e = same-read a b in
        let h = (fuses_same (ap (λ (x : FileRead). x.sizes) e.0) e.1 f g).0 in
        absurd (let x : ◌≡◌ {A = ℕ} 0 1 = cc in omega arith)
    comes_once o₁ o₂ l₁ l₂ (fused {k = k₁} a f) (fused {k = k₂} b g) =
        let e = same-read a b in
        let z = ap (λ (x : FileRead). x.sizes) e.0 in
        let h = fuses_same z e.1 f g in
        let k = told_once k₁ k₂ h.0 in (rw (z, k), h.1)

-- ---- the line

pub answered_once : {bytes : List ℕ} {o₁ o₂ : Result FusedSystem Fault} → Answered bytes o₁ → Answered bytes o₂ → o₁ ≡ o₂
answered_once {bytes} {o₁} {o₂} a b = (comes_once 2 bytes (made RESULT_TERMS) o₁ o₂ a.left b.left a.comes b.comes).0

-- THE THEOREM. No second line.
pub reports_once : (bytes line₁ line₂ : List ℕ) → Reports bytes line₁ → Reports bytes line₂ → line₁ ≡ line₂
reports_once bytes line₁ line₂ (long h) (long i) = refl
reports_once bytes line₁ line₂ (long h) (answers i b) = absurd (omega arith)
reports_once bytes line₁ line₂ (answers h a) (long i) = absurd (omega arith)
reports_once bytes line₁ line₂ (answers h a) (answers i b) = ap (λ (o : Result FusedSystem Fault). line_of (told_outcome o)) (answered_once a b)

pub reported_once : (bytes out : List ℕ) (r₁ r₂ : Result ℕ Refusal) (o₁ o₂ : List ℕ) → Reported bytes out r₁ o₁ → Reported bytes out r₂ o₂ → (r₁ ≡ r₂) × (o₁ ≡ o₂)
reported_once bytes out r₁ r₂ o₁ o₂ a b =
    let e = reports_once bytes a.line b.line a.reports b.reports in
    puts_once (subst (λ (t : List ℕ). Puts t out r₁ o₁) e a.puts) b.puts

-- ---- the file

module _ (l : Lent) (out flags : List ℕ) where
  file_once : (z : Sizes) (r₁ r₂ : Result FusedFile Fault) (o₁ o₂ f₁ f₂ : List ℕ) → WritesFile z l out flags r₁ o₁ f₁ → WritesFile z l out flags r₂ o₂ f₂ → (r₁ ≡ r₂) × (o₁ ≡ o₂) × (f₁ ≡ f₂)
  file_once z r₁ r₂ o₁ o₂ f₁ f₂ (L.short h) (L.short i) = (refl, refl, refl)
  file_once z r₁ r₂ o₁ o₂ f₁ f₂ (L.short h) (L.unwritten i b) = absurd (omega arith)
  file_once z r₁ r₂ o₁ o₂ f₁ f₂ (L.short h) (L.written i b) = absurd (omega arith)
  file_once z r₁ r₂ o₁ o₂ f₁ f₂ (L.unwritten h a) (L.short i) = absurd (omega arith)
  file_once z r₁ r₂ o₁ o₂ f₁ f₂ (L.written h a) (L.short i) = absurd (omega arith)
  file_once z r₁ r₂ o₁ o₂ f₁ f₂ (L.unwritten {r = n} h a) (L.unwritten {r = m} i b) =
      let e = (write_once z (output l) out (Err n) (Err m) out out a b).0 in (cc, refl, refl)
  file_once z r₁ r₂ o₁ o₂ f₁ f₂ (L.unwritten {r = n} h a) (L.written {n = m} i b) =
      absurd (let e = (write_once z (output l) out (Err n) (Ok m) out _ a b).0 in let x : ◌≡◌ {A = ℕ} 0 1 = cc in omega arith)
  file_once z r₁ r₂ o₁ o₂ f₁ f₂ (L.written {n} h a) (L.unwritten {r = m} i b) =
      absurd (let e = (write_once z (output l) out (Ok n) (Err m) _ out a b).0 in let x : ◌≡◌ {A = ℕ} 0 1 = cc in omega arith)
  file_once z r₁ r₂ o₁ o₂ f₁ f₂ (L.written {n} h a) (L.written {n = m} i b) =
      let e = write_once z (output l) out (Ok n) (Ok m) o₁ o₂ a b in (let c = e.0 in cc, e.1, refl)

  pub writes_once : (o : Result FusedSystem Fault) (r₁ r₂ : Result FusedFile Fault) (o₁ o₂ f₁ f₂ : List ℕ) → WritesOut l out flags o r₁ o₁ f₁ → WritesOut l out flags o r₂ o₂ f₂ → (r₁ ≡ r₂) × (o₁ ≡ o₂) × (f₁ ≡ f₂)
  writes_once o r₁ r₂ o₁ o₂ f₁ f₂ L.refused L.refused = (refl, refl, refl)
  writes_once o r₁ r₂ o₁ o₂ f₁ f₂ (L.fused a) (L.fused b) = file_once _ r₁ r₂ o₁ o₂ f₁ f₂ a b

-- THE THEOREM. No second answer, and nothing else left in the lent bytes and flags.
pub fuses_file_once : (slots : ℕ) (bytes out flags : List ℕ) (r₁ r₂ : Result FusedFile Fault) (o₁ o₂ f₁ f₂ : List ℕ) → FusesFile slots bytes out flags r₁ o₁ f₁
    → FusesFile slots bytes out flags r₂ o₂ f₂ → (r₁ ≡ r₂) × (o₁ ≡ o₂) × (f₁ ≡ f₂)
fuses_file_once slots bytes out flags r₁ r₂ o₁ o₂ f₁ f₂ (L.long h) (L.long i) = (refl, refl, refl)
fuses_file_once slots bytes out flags r₁ r₂ o₁ o₂ f₁ f₂ (L.long h) (L.looked i b) = absurd (omega arith)
fuses_file_once slots bytes out flags r₁ r₂ o₁ o₂ f₁ f₂ (L.looked h a) (L.long i) = absurd (omega arith)
fuses_file_once slots bytes out flags r₁ r₂ o₁ o₂ f₁ f₂ (L.looked h a) (L.looked i b) =
    let e = comes_once slots bytes (made L.MAX_RESULT) a.outcome b.outcome a.left b.left a.comes b.comes in
    writes_once b.left out flags b.outcome r₁ r₂ o₁ o₂ f₁ f₂
    (subst (λ (x : Lent). WritesOut x out flags b.outcome r₁ o₁ f₁) e.1 (subst (λ (x : Result FusedSystem Fault). WritesOut a.left out flags x r₁ o₁ f₁) e.0 a.writes))
    b.writes

-- "a refusal fills nothing"
module _ (slots : ℕ) (bytes out flags : List ℕ) where
  file_keeps : {z : Sizes} {l : Lent} (r : Result FusedFile Fault) (out' flags' : List ℕ) (number : ℕ) → told_file r ≡ T.refused number → WritesFile z l out flags r out' flags' → (out' ≡ out) × (flags' ≡ flags)
  file_keeps r out' flags' number e (L.short h) = (refl, refl)
  file_keeps r out' flags' number e (L.unwritten h a) = (refl, refl)
  file_keeps r out' flags' number e (L.written h a) = absurd (let x : ◌≡◌ {A = ℕ} 0 1 = cc in omega arith)

  writes_keep : {l : Lent} {o : Result FusedSystem Fault} (r : Result FusedFile Fault) (out' flags' : List ℕ) (number : ℕ) → told_file r ≡ T.refused number → WritesOut l out flags o r out' flags' → (out' ≡ out) × (flags' ≡ flags)
  writes_keep r out' flags' number e L.refused = (refl, refl)
  writes_keep r out' flags' number e (L.fused a) = file_keeps r out' flags' number e a

  pub refusal_keeps : (r : Result FusedFile Fault) (out' flags' : List ℕ) (number : ℕ) → told_file r ≡ T.refused number → FusesFile slots bytes out flags r out' flags' → (out' ≡ out) × (flags' ≡ flags)
  refusal_keeps r out' flags' number e (L.long h) = (refl, refl)
  refusal_keeps r out' flags' number e (L.looked h a) = writes_keep r out' flags' number e a.writes
