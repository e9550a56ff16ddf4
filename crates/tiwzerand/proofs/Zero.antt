-- A caller looks at the number alone: 0 is an answer, and every refusal has another number. Assumes nothing.
use mathlib.Core.Path.{◌≡◌, sym, ◌∙◌}
use mathlib.Core.Bool.{Bool, true, false}
use mathlib.Core.List.{List, [], ◌∷◌}
use Prim.Native.Nat.{ℕ}
use native.Mathlib.Omega.{arith}
use Rattle.std.specs.Prelude.{Result, Ok, Err}
use Rattle.refusal.specs.declared.Refusal.{Refusal}
use Rattle.word.specs.Answers.{Told, given, checked, told_by}
use Rattle.lower.specs.declared.Sizes.{Sizes}
use Rattle.lower.specs.Stores.{Stores, system_of}
use Rattle.lower.proofs.Refusals.{number_some}
use Rattle.house_file.specs.Reading.{told_read}
use Rattle.house_file.specs.declared.FileRead.{FileRead}
use Rattle.house_file.specs.declared.FileFault.{FileFault}
use Rattle.house_write.specs.Write.{told_written}
use Rattle.fusion.specs.Left.{Lent}
use Rattle.fusion.specs.Answer.{told_fused, Fuses, refused, circular, short, patches}
use Rattle.evaluate.specs.Evaluation.{told_evaluated}
use Rattle.undo.specs.FillBack.{FilledBack}
use Rattle.fill_back.specs.Filling as B
use Rattle.fill_back.specs.Filling.{flagged, FillsIs}
use Rattle.tell.specs.Gives.{number}
use Rattle.tiwzerand.specs.Exported.{Reads, Writes, FusesTo, Evaluates}

-- something is told, and no refusal
pub data Answered : Told → Type 0 where
  answered : {xs : List ℕ} → Answered (given xs)

-- ---- composing and pushing
pub checked_zero : (b : Bool) (xs : List ℕ) → number (checked b xs) ≡ 0 → Answered (checked b xs)
checked_zero true xs e = answered
checked_zero false xs e = absurd (omega (arith, e))

-- ---- fusing
fused_zero : (slots : ℕ) (z : Sizes) (l l' : Lent) (t : Told) → Fuses slots z l l' t → number t ≡ 0 → Answered t
unfolding told_fused
fused_zero slots z l l' t (refused e h k) n = absurd (h n)
fused_zero slots z l l' t (circular f w q k) n = absurd (omega (arith, n))
fused_zero slots z l l' t (short f c st s g k) n = absurd (omega (arith, n))
fused_zero slots z l l' t (patches f c st y) n = answered

pub fuse_zero : {slots : ℕ} {z : Sizes} {l l' : Lent} {vs vs' : List ℕ} (r : ℕ) (x : FusesTo slots z l l' vs r vs') → r ≡ 0 → Answered x.told
fuse_zero {slots} {z} {l} {l'} r x e = fused_zero slots z l l' x.told x.fuses (sym x.gives.number_is ∙ e)

-- ---- reading
told_read_zero : (a : Result FileRead FileFault) → number (told_read a) ≡ 0 → Answered (told_read a)
told_read_zero (Ok y) e = answered
told_read_zero (Err f) e = absurd (number_some f.refusal e)

pub read_zero : {s terms ands imuls bmuls zeros dsts rhss vs t a i b o d h vs' : List ℕ} (r : ℕ)
    (x : Reads s terms ands imuls bmuls zeros dsts rhss vs r t a i b o d h vs') → r ≡ 0 → Answered (told_read x.answer)
read_zero r x e = told_read_zero x.answer (sym x.gives.number_is ∙ e)

-- ---- writing and evaluating
told_zero : (vs : ℕ → List ℕ) (a : Result ℕ Refusal) → number (told_by vs a) ≡ 0 → Answered (told_by vs a)
told_zero vs (Ok n) e = answered
told_zero vs (Err f) e = absurd (number_some f e)

module _ {z : Sizes} {s : Stores} {out vs out' vs' : List ℕ} (r : ℕ) where
  pub write-zero : (x : Writes z s out vs r out' vs') → r ≡ 0 → Answered (told_written x.answer)
  write-zero x e = told_zero (λ n. n ∷ []) x.answer (sym x.gives.number_is ∙ e)

  pub evaluate_zero : {ws : List ℕ} (x : Evaluates z s ws out vs r out' vs') → r ≡ 0 → Answered (told_evaluated x.answer)
  evaluate_zero x e = told_zero (λ n. n ∷ []) x.answer (sym x.gives.number_is ∙ e)

-- ---- filling back: at 0 the assignment is filled back
pub fill-back-zero : {z : Sizes} {s : Stores} {flags ws ws' : List ℕ} (r : ℕ) → FillsIs z s flags ws ws' r → r ≡ 0 → FilledBack (system_of z s) (flagged flags) ws ws'
fill-back-zero r (B.refused e h k) n = absurd (h n)
fill-back-zero r (B.circular f w q k) n = absurd (omega (arith, n))
fill-back-zero r (B.sized f c l k) n = absurd (omega (arith, n))
fill-back-zero r (B.filled f c l k x) n = x
