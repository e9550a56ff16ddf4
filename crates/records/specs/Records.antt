-- Definitions as records (01, "The form each place takes": "a list of small records, closed up in place").
--
--   dsts_of, rhss_of     the destinations and the right sides of the records
--   lent_by             what is lent, with the definitions as records: the number slices' form of it
--   stores_by           the same of a system that is only read; records_in, of one that is handed in as a whole
--   unloaded           the first m places of a number slice are the records' numbers, and the rest is as it was
--   reloaded           the first n records are those of the numbers, and the rest is as it was
--   RestKept n l l'    past its first n places l' is as l was: "the rest is as it was", of a slice whose first n places are lent on
--   no_numbers         the arrays to unload to
--   numbers_of         the numbers of so many records as the arrays take; Stand n, that the arrays are as long as n says
--   first_of           the stores of a system that is only read, with these numbers in the place of the records'
--   crowded            more definitions count than the arrays take, and all of them are there
--   crowd_fault         the refusal of such a system: 3, 4 and 5 come before 6
--   held               how many records' numbers the arrays take: all, or so many as there may be definitions
--   looked             how many records are looked at where they stand: so many as count, where that is more than the arrays take
--   found              what is found of them
--   past_fault          the refusal of a system that has too many definitions, all of them there: 3, 4 and 5 come before 6; past_of, by its stores
--   FillsFirst, FusesFirst, WritesFirst, EvaluatesFirst   the answer where n records were looked at, with a fault or none: by the first
--                      numbers, or a refusal
--
-- Assumes nothing.
use Rattle.std.specs.Prelude.{◌≡◌, ℕ, ◌≤◌, Bool, cond, ◌&&◌, List, [], ◌∷◌, map, length, ltb, leb, min, take, drop, replicate, Result, Err}
use Rattle.std.proofs.lemmas.List.Edits.{sets}
use Rattle.refusal.specs.declared.Refusal.{Refusal}
use Rattle.refusal.specs.Refusals.{number_of}
use Rattle.word.specs.Answers as T
use Rattle.word.specs.Answers.{Told}
use Rattle.lower.specs.declared.Sizes.{Sizes}
use Rattle.lower.specs.Accepted.{MAX_DEFINITIONS}
use Rattle.lower.specs.Stores.{Stores, stores}
use Rattle.lower.specs.Faults.{or_else, pairs_fault, places_fault, FULL}
use Rattle.fusion.specs.Left.{Lent, lent}
use Rattle.fusion.specs.Answer.{Fuses}
use Rattle.fill_back.specs.Filling.{FillsIs}
use Rattle.house_write.specs.Write.{WriteIs}
use Rattle.evaluate.specs.Evaluation.{EvaluateIs}
use Rattle.records.specs.declared.Definition.{Definition}
use Rattle.records.specs.declared.LentRecords.{LentRecords}
use Rattle.records.specs.declared.Numbers.{Numbers}

abbrev pub dsts_of : List Definition → List ℕ
dsts_of ds = map (λ (d : Definition). d.dst) ds

abbrev pub rhss_of : List Definition → List ℕ
rhss_of ds = map (λ (d : Definition). d.rhs) ds

abbrev pub stores_by : List ℕ → List ℕ → List ℕ → List ℕ → List ℕ → List ℕ → List Definition → Stores
stores_by old new ands imuls bmuls zeros ds = stores old new ands imuls bmuls zeros (dsts_of ds) (rhss_of ds)

abbrev pub records_in : LentRecords → Stores
records_in s = stores_by s.stores.old.now s.stores.new.now s.ands.now s.imuls.now s.bmuls.now s.zeros.now s.defs.now

abbrev pub lent_by : List ℕ → List ℕ → List ℕ → List ℕ → List ℕ → List ℕ → List Definition → List ℕ → Lent
lent_by old new ands imuls bmuls zeros ds flags = lent old new ands imuls bmuls zeros (dsts_of ds) (rhss_of ds) flags

-- m records' numbers, from the front of a number slice on
abbrev pub unloaded : List ℕ → List ℕ → ℕ → List ℕ
unloaded l numbers m = sets l 0 (take m numbers)

-- records made of numbers
unfoldable pub made : List ℕ → List ℕ → List Definition
made [] rs = []
made (d ∷ ds) [] = []
made (d ∷ ds) (r ∷ rs) = record { rhs = r; dst = d } ∷ made ds rs

abbrev pub reloaded : List Definition → List ℕ → List ℕ → ℕ → List Definition
reloaded ds dsts rhss n = sets ds 0 (made (take n dsts) (take n rhss))

abbrev pub RestKept : ℕ → List ℕ → List ℕ → Type 0
RestKept n l l' = drop n l' ≡ drop n l

abbrev pub no_numbers : Numbers
no_numbers = record { len = 0; dsts = replicate MAX_DEFINITIONS 0; rhss = replicate MAX_DEFINITIONS 0 }

unfoldable pub numbers_of : List Definition → Numbers
numbers_of ds =
    record {
      len = min (length ds) MAX_DEFINITIONS;
      dsts = unloaded (replicate MAX_DEFINITIONS 0) (dsts_of ds) (min (length ds) MAX_DEFINITIONS);
      rhss = unloaded (replicate MAX_DEFINITIONS 0) (rhss_of ds) (min (length ds) MAX_DEFINITIONS);
    }

pub record Stand (n : Numbers) : Type 0 where
  pub dsts_there : n.len ≤ length n.dsts
  pub rhss_there : n.len ≤ length n.rhss

abbrev pub first_of : LentRecords → Numbers → Stores
first_of s n = stores s.stores.old.now s.stores.new.now s.ands.now s.imuls.now s.bmuls.now s.zeros.now (take n.len n.dsts) (take n.len n.rhss)

abbrev pub crowded : Sizes → ℕ → Bool
crowded z len = ltb MAX_DEFINITIONS z.linears && leb z.linears len

-- the rows alone
abbrev pub rows_only : Sizes → Sizes
rows_only z = record { wires = z.wires; ands = z.ands; imuls = z.imuls; bmuls = z.bmuls; zeros = z.zeros; linears = 0 }

unfoldable pub crowd_fault : Sizes → Stores → ℕ
crowd_fault z s = cond (crowded z (length s.dsts)) (or_else (places_fault z s) FULL) 0

unfoldable pub held : ℕ → ℕ
held len = cond (ltb MAX_DEFINITIONS len) MAX_DEFINITIONS len

unfoldable pub looked : ℕ → Sizes → ℕ
looked len z = cond (ltb MAX_DEFINITIONS z.linears && leb z.linears len) z.linears 0

abbrev pub found : Sizes → List ℕ → List ℕ → List Definition → ℕ
found z old new ds = pairs_fault z.wires old new (take (looked (length ds) z) (dsts_of ds)) (take (looked (length ds) z) (rhss_of ds))

-- "lists in tag order": the rows' fault before the definitions'
unfoldable pub past_fault : Sizes → List ℕ → List ℕ → List ℕ → List ℕ → List ℕ → List ℕ → ℕ → ℕ
past_fault z old new ands imuls bmuls zeros fault = or_else (places_fault (rows_only z) (stores old new ands imuls bmuls zeros [] [])) (or_else fault FULL)

-- the same of a system's stores
abbrev pub past_of : Sizes → Stores → ℕ → ℕ
past_of z s fault = past_fault z s.old s.new s.ands s.imuls s.bmuls s.zeros fault

pub data FillsFirst (n fault : ℕ) (z : Sizes) (s : Stores) (flags ws ws' : List ℕ) : ℕ → Type 0 where
  filled_first : {r : ℕ} → n ≡ 0 → FillsIs z s flags ws ws' r → FillsFirst n fault z s flags ws ws' r
  filled_past : {r : ℕ} → (n ≡ 0 → ⊥) → r ≡ past_of z s fault → ws' ≡ ws → FillsFirst n fault z s flags ws ws' r

pub data FusesFirst (n fault slots : ℕ) (z : Sizes) (l l' : Lent) : Told → Type 0 where
  fused_first : {t : Told} → n ≡ 0 → Fuses slots z l l' t → FusesFirst n fault slots z l l' t
  fused_past : {r : ℕ} → (n ≡ 0 → ⊥) → r ≡ past_fault z l.old [] l.ands l.imuls l.bmuls l.zeros fault → l' ≡ l → FusesFirst n fault slots z l l' (T.refused r)

-- out is what is lent before and out' after
pub data WritesFirst (n fault : ℕ) (z : Sizes) (s : Stores) (out out' : List ℕ) : Result ℕ Refusal → Type 0 where
  written_first : {r : Result ℕ Refusal} → n ≡ 0 → WriteIs z s out r out' → WritesFirst n fault z s out out' r
  written_past : {r : Refusal} → (n ≡ 0 → ⊥) → number_of r ≡ past_of z s fault → out' ≡ out → WritesFirst n fault z s out out' (Err r)

pub data EvaluatesFirst (n fault : ℕ) (z : Sizes) (s : Stores) (ws out out' : List ℕ) : Result ℕ Refusal → Type 0 where
  evaluated_first : {r : Result ℕ Refusal} → n ≡ 0 → EvaluateIs z s ws out r out' → EvaluatesFirst n fault z s ws out out' r
  evaluated_past : {r : Refusal} → (n ≡ 0 → ⊥) → number_of r ≡ past_of z s fault → out' ≡ out → EvaluatesFirst n fault z s ws out out' (Err r)
