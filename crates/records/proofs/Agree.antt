-- The form over records and the form over numbers agree: records are their numbers, so each contract over records has one answer and
-- leaves one result, and that is what the same work over the records' numbers leaves. Assumes nothing.
use mathlib.Core.Path.{◌≡◌, refl, sym, ap, ◌∙◌}
use Prim.Native.Nat.{ℕ}
use native.Mathlib.Omega.{arith}
use mathlib.Core.List.{List, [], ◌∷◌}
use lib.ListN.{length}
use Rattle.std.proofs.Common.{Result, Ok, Err}
use Rattle.refusal.specs.declared.Refusal.{Refusal}
use Rattle.lower.specs.declared.Sizes.{Sizes}
use Rattle.lower.proofs.Refusals.{number_once}
use Rattle.evaluate.specs.Evaluation.{EvaluateIs}
use Rattle.evaluate.proofs.Once.{evaluate_once}
use Rattle.fill_back.specs.Filling.{FillsIs}
use Rattle.fill_back.proofs.Once.{fills_once}
use Rattle.house_write.specs.Write.{WriteIs}
use Rattle.house_write.proofs.Once.{write_once}
use Rattle.house_file.specs.declared.FileRead.{FileRead}
use Rattle.house_file.specs.declared.FileFault.{FileFault}
use Rattle.house_read.specs.Answer.{ReadIs}
use Rattle.house_read.proofs.Files.{Same, read_once}
use Rattle.fusion.specs.declared.Counts.{Counts}
use Rattle.fusion.specs.Left.{Lent, lent}
use Rattle.fusion.specs.Answer.{told_fused, Fuses}
use Rattle.fusion.proofs.Once.{fuses_once}
use Rattle.records.specs.Records.{dsts_of, rhss_of, stores_by, lent_by, made}
use Rattle.records.specs.declared.Definition.{Definition}

-- ---- records are their numbers
next_same : (x y : Definition) (xs ys : List Definition) → x.dst ≡ y.dst → x.rhs ≡ y.rhs → xs ≡ ys → x ∷ xs ≡ y ∷ ys
next_same x y xs ys d r e =
    ap (λ (n : ℕ). record { rhs = n; dst = x.dst } ∷ xs) r ∙ ap (λ (n : ℕ). record { rhs = y.rhs; dst = n } ∷ xs) d ∙ ap (λ (l : List Definition). y ∷ l) e

pub records_same : (xs ys : List Definition) → dsts_of xs ≡ dsts_of ys → rhss_of xs ≡ rhss_of ys → xs ≡ ys
records_same [] [] d e = refl
records_same [] (y ∷ ys) d e = absurd (let h : 0 ≡ length (dsts_of (y ∷ ys)) = ap length d in omega (arith, h))
records_same (x ∷ xs) [] d e = absurd (let h : length (dsts_of (x ∷ xs)) ≡ 0 = ap length d in omega (arith, h))
records_same (x ∷ xs) (y ∷ ys) d e = next_same x y xs ys (cc) (cc) (records_same xs ys (cc) (cc))

-- records made of the numbers of records are these records
pub made-same : (xs : List Definition) → made (dsts_of xs) (rhss_of xs) ≡ xs
unfolding made
made-same [] = refl
made-same (x ∷ xs) = ap (λ (l : List Definition). x ∷ l) (made-same xs)

-- ---- fusing
-- number and values tell the answer
pub told_once : (r r₂ : Result Counts Refusal) → told_fused r ≡ told_fused r₂ → r ≡ r₂
unfolding told_fused
told_once (Err n) (Err m) e = ap {B = Result Counts Refusal} Err (number_once n m cc)
told_once (Err n) (Ok k) e = absurd (let h : ◌≡◌ {A = ℕ} 0 1 = cc in omega arith)
told_once (Ok k) (Err n) e = absurd (let h : ◌≡◌ {A = ℕ} 0 1 = cc in omega arith)
told_once (Ok k) (Ok k₂) e = ap {B = Result Counts Refusal} Ok (counts k k₂ (cc) (cc) (cc) (cc) (cc))
  where
    counts : (a b : Counts) → a.gone ≡ b.gone → a.stranded ≡ b.stranded → a.committed ≡ b.committed → a.written ≡ b.written → a.kept ≡ b.kept → a ≡ b
    counts a b e₁ e₂ e₃ e₄ e₅ =
        ap (λ (n : ℕ). record { gone = n; stranded = a.stranded; committed = a.committed; written = a.written; kept = a.kept }) e₁
        ∙ ap (λ (n : ℕ). record { gone = b.gone; stranded = n; committed = a.committed; written = a.written; kept = a.kept }) e₂
        ∙ ap (λ (n : ℕ). record { gone = b.gone; stranded = b.stranded; committed = n; written = a.written; kept = a.kept }) e₃
        ∙ ap (λ (n : ℕ). record { gone = b.gone; stranded = b.stranded; committed = b.committed; written = n; kept = a.kept }) e₄
        ∙ ap (λ (n : ℕ). record { gone = b.gone; stranded = b.stranded; committed = b.committed; written = b.written; kept = n }) e₅

-- all that fusing leaves over records
pub record SameLeft (r r₂ : Result Counts Refusal) (new ands imuls bmuls zeros : List ℕ) (ds : List Definition) (flags new₂ ands₂ imuls₂ bmuls₂ zeros₂ : List ℕ) (ds₂ : List Definition) (flags₂ : List ℕ) : Type 0 where
  pub answers : r ≡ r₂
  pub new_same : new ≡ new₂
  pub ands_same : ands ≡ ands₂
  pub imuls_same : imuls ≡ imuls₂
  pub bmuls_same : bmuls ≡ bmuls₂
  pub zeros_same : zeros ≡ zeros₂
  pub defs_same : ds ≡ ds₂
  pub flags_same : flags ≡ flags₂

module _ (slots : ℕ) (z : Sizes) (old new ands imuls bmuls zeros : List ℕ) (ds : List Definition) (flags : List ℕ) (r r₂ : Result Counts Refusal) where
  abbrev given : Lent
  given = lent_by old new ands imuls bmuls zeros ds flags

  -- THE THEOREM. No second answer, and no other record, number or flag left.
  pub records_once : (n a i b o : List ℕ) (d : List Definition) (f n₂ a₂ i₂ b₂ o₂ : List ℕ) (d₂ : List Definition) (f₂ : List ℕ)
      → Fuses slots z given (lent_by old n a i b o d f) (told_fused r) → Fuses slots z given (lent_by old n₂ a₂ i₂ b₂ o₂ d₂ f₂) (told_fused r₂)
      → SameLeft r r₂ n a i b o d f n₂ a₂ i₂ b₂ o₂ d₂ f₂
  records_once n a i b o d f n₂ a₂ i₂ b₂ o₂ d₂ f₂ x y =
      let p = fuses_once slots z given (told_fused r) (told_fused r₂) (lent_by old n a i b o d f) (lent_by old n₂ a₂ i₂ b₂ o₂ d₂ f₂) x y in
      record {
        answers = told_once r r₂ p.0;
        new_same = ap (λ (l : Lent). l.new) p.1;
        ands_same = ap (λ (l : Lent). l.ands) p.1;
        imuls_same = ap (λ (l : Lent). l.imuls) p.1;
        bmuls_same = ap (λ (l : Lent). l.bmuls) p.1;
        zeros_same = ap (λ (l : Lent). l.zeros) p.1;
        defs_same = records_same d d₂ (ap (λ (l : Lent). l.dsts) p.1) (ap (λ (l : Lent). l.rhss) p.1);
        flags_same = ap (λ (l : Lent). l.flags) p.1;
      }

  -- fusing over the records' numbers answers the same and leaves the numbers of the records that fusing over records leaves
  pub fusing_agrees : (n a i b o : List ℕ) (d : List Definition) (f : List ℕ) (l : Lent)
      → Fuses slots z given (lent_by old n a i b o d f) (told_fused r) → Fuses slots z (lent old new ands imuls bmuls zeros (dsts_of ds) (rhss_of ds) flags) l (told_fused r₂)
      → (r ≡ r₂) × (l ≡ lent_by old n a i b o d f)
  fusing_agrees n a i b o d f l x y =
      let p = fuses_once slots z given (told_fused r) (told_fused r₂) (lent_by old n a i b o d f) l x y in (told_once r r₂ p.0, sym p.1)

-- ---- filling back, evaluating and writing leave the records
module _ (z : Sizes) (old new ands imuls bmuls zeros : List ℕ) (ds : List Definition) where
  pub fill_records_once : (flags ws ws₁ ws₂ : List ℕ) (r₁ r₂ : ℕ) → FillsIs z (stores_by old new ands imuls bmuls zeros ds) flags ws ws₁ r₁
      → FillsIs z (stores_by old new ands imuls bmuls zeros ds) flags ws ws₂ r₂ → (r₁ ≡ r₂) × (ws₁ ≡ ws₂)
  fill_records_once flags ws ws₁ ws₂ r₁ r₂ x y = fills_once z (stores_by old new ands imuls bmuls zeros ds) flags ws ws₁ ws₂ r₁ r₂ x y

  pub evaluate_records_once : (ws out : List ℕ) (r r₂ : Result ℕ Refusal) (o o₂ : List ℕ) → EvaluateIs z (stores_by old new ands imuls bmuls zeros ds) ws out r o
      → EvaluateIs z (stores_by old new ands imuls bmuls zeros ds) ws out r₂ o₂ → (r ≡ r₂) × (o ≡ o₂)
  evaluate_records_once ws out r r₂ o o₂ x y = evaluate_once z (stores_by old new ands imuls bmuls zeros ds) ws out r r₂ o o₂ x y

  pub write_records_once : (out : List ℕ) (r r₂ : Result ℕ Refusal) (o o₂ : List ℕ) → WriteIs z (stores_by old new ands imuls bmuls zeros ds) out r o
      → WriteIs z (stores_by old new ands imuls bmuls zeros ds) out r₂ o₂ → (r ≡ r₂) × (o ≡ o₂)
  write_records_once out r r₂ o o₂ x y = write_once z (stores_by old new ands imuls bmuls zeros ds) out r r₂ o o₂ x y

-- ---- reading
-- all that reading leaves over records
pub record SameRead (r r₂ : Result FileRead FileFault) (t a i b o : List ℕ) (d : List Definition) (t₂ a₂ i₂ b₂ o₂ : List ℕ) (d₂ : List Definition) : Type 0 where
  pub answers : r ≡ r₂
  pub terms_same : t ≡ t₂
  pub ands_same : a ≡ a₂
  pub imuls_same : i ≡ i₂
  pub bmuls_same : b ≡ b₂
  pub zeros_same : o ≡ o₂
  pub defs_same : d ≡ d₂

module _ (s terms ands imuls bmuls zeros : List ℕ) (ds : List Definition) (r r₂ : Result FileRead FileFault) where
  pub read_records_once : (t a i b o : List ℕ) (d : List Definition) (t₂ a₂ i₂ b₂ o₂ : List ℕ) (d₂ : List Definition)
      → ReadIs s terms ands imuls bmuls zeros (dsts_of ds) (rhss_of ds) r t a i b o (dsts_of d) (rhss_of d)
      → ReadIs s terms ands imuls bmuls zeros (dsts_of ds) (rhss_of ds) r₂ t₂ a₂ i₂ b₂ o₂ (dsts_of d₂) (rhss_of d₂) → SameRead r r₂ t a i b o d t₂ a₂ i₂ b₂ o₂ d₂
  read_records_once t a i b o d t₂ a₂ i₂ b₂ o₂ d₂ x y =
      let p : Same r r₂ t a i b o (dsts_of d) (rhss_of d) t₂ a₂ i₂ b₂ o₂ (dsts_of d₂) (rhss_of d₂) = read_once r r₂ t a i b o (dsts_of d) (rhss_of d) t₂ a₂ i₂ b₂ o₂ (dsts_of d₂) (rhss_of d₂) x y in
      record {
        answers = p.answers;
        terms_same = p.terms_same;
        ands_same = p.ands_same;
        imuls_same = p.imuls_same;
        bmuls_same = p.bmuls_same;
        zeros_same = p.zeros_same;
        defs_same = records_same d d₂ p.dsts_same p.rhss_same;
      }

  -- reading to the records' numbers answers the same and leaves the numbers of the records that reading to records leaves
  pub reading_agrees : (t a i b o : List ℕ) (d : List Definition) (t₂ a₂ i₂ b₂ o₂ d₂ h₂ : List ℕ) → ReadIs s terms ands imuls bmuls zeros (dsts_of ds) (rhss_of ds) r t a i b o (dsts_of d) (rhss_of d)
      → ReadIs s terms ands imuls bmuls zeros (dsts_of ds) (rhss_of ds) r₂ t₂ a₂ i₂ b₂ o₂ d₂ h₂ → Same r r₂ t a i b o (dsts_of d) (rhss_of d) t₂ a₂ i₂ b₂ o₂ d₂ h₂
  reading_agrees t a i b o d t₂ a₂ i₂ b₂ o₂ d₂ h₂ x y = read_once r r₂ t a i b o (dsts_of d) (rhss_of d) t₂ a₂ i₂ b₂ o₂ d₂ h₂ x y
