-- A house file read into stores, and what was read fused.
--
--   made room           the stores: as long as the limits of 6 ask, a result store of so many terms, and a flag a wire; all 0
--   fault_number f      the paper's number of a refusal
--   display_text f      what `{}` displays of it: the number, with the offset of the field where the reader refuses
--   ReadLent b l r l'   `read` answers r to the bytes b and leaves l' of the stores l
--   Comes slots b l o l'    what reading and fusing come to, and what they leave: a refusal of the reader with its offset, one of fusing,
--                       or the sizes of what was read and the counts of fusing
--   told_outcome o       the paper's number of a refusal, or nine values
--
-- Assumes nothing.
use Rattle.std.specs.Prelude.{◌≡◌, ℕ, ◌-◌, List, [], ◌∷◌, ◌++◌, replicate, Result, Ok, Err}
use Rattle.refusal.specs.declared.Refusal.{Refusal}
use Rattle.refusal.specs.Refusals.{number_of}
use Rattle.word.specs.Answers as T
use Rattle.word.specs.Answers.{Told, given}
use Rattle.lower.specs.declared.Sizes.{Sizes}
use Rattle.house_file.specs.declared.FileFault.{FileFault}
use Rattle.house_file.specs.declared.FileRead.{FileRead}
use Rattle.house_read.specs.Answer.{ReadIs}
use Rattle.fusion.specs.declared.Counts.{Counts}
use Rattle.fusion.specs.Left.{Lent, lent}
use Rattle.fusion.specs.Answer.{told_fused, Fuses}
use Rattle.text.specs.Decimal.{decimal}
use Rattle.text.specs.Text.{AT}
use Rattle.report.specs.declared.outcome.FusedSystem.{FusedSystem}
use Rattle.report.specs.declared.outcome.Fault.{Fault}
use Rattle.report.specs.declared.outcome.Fault.TheVariants.{Unread, Refused}

-- one number a term, 3, 4, 6 and 1 a row, a destination and a right side a definition
abbrev pub made : ℕ → Lent
made room =
    lent (replicate 8192 0) (replicate room 0) (replicate 3072 0) (replicate 4096 0) (replicate 6144 0) (replicate 1024 0) (replicate 1024 0)
    (replicate 1024 0) (replicate 4096 0)

abbrev pub fault_number : Fault → ℕ
fault_number (Unread f) = number_of f.refusal
fault_number (Refused r) = number_of r

abbrev pub display_text : Fault → List ℕ
display_text (Unread f) = decimal (number_of f.refusal) ++ (AT ++ decimal f.at)
display_text (Refused r) = decimal (number_of r)

pub record ReadLent (bytes : List ℕ) (l : Lent) (r : Result FileRead FileFault) (l' : Lent) : Type 0 where
  pub reads : ReadIs bytes l.old l.ands l.imuls l.bmuls l.zeros l.dsts l.rhss r l'.old l'.ands l'.imuls l'.bmuls l'.zeros l'.dsts l'.rhss
  pub new_same : l'.new ≡ l.new
  pub flags_same : l'.flags ≡ l.flags

pub data Comes (slots : ℕ) (bytes : List ℕ) (l : Lent) : Result FusedSystem Fault → Lent → Type 0 where
  unread : {f : FileFault} {l' : Lent} → ReadLent bytes l (Err f) l' → Comes slots bytes l (Err (Unread f)) l'
  unfused : {x : FileRead} {r : Refusal} {m l' : Lent} → ReadLent bytes l (Ok x) m → Fuses slots x.sizes m l' (T.refused (number_of r))
      → Comes slots bytes l (Err (Refused r)) l'
  fused : {x : FileRead} {k : Counts} {m l' : Lent} → ReadLent bytes l (Ok x) m → Fuses slots x.sizes m l' (told_fused (Ok k))
      → Comes slots bytes l (Ok (record { sizes = x.sizes; counts = k })) l'

-- "And, Imul, Bmul, Zero, Linear after; committed; stranded; terms written; kept"
abbrev pub nine_of : Sizes → Counts → List ℕ
nine_of z k =
    z.ands ∷ z.imuls ∷ z.bmuls ∷ z.zeros ∷ (z.linears - k.gone) ∷ k.committed ∷ k.stranded ∷ k.written ∷ k.kept ∷ []

abbrev pub told_outcome : Result FusedSystem Fault → Told
told_outcome (Ok s) = given (nine_of s.sizes s.counts)
told_outcome (Err f) = T.refused (fault_number f)
