-- The texts that the programs print, as bytes, and what is left where one is put.
--
--   NEWLINE, SPACE       their bytes
--   refused_text n        "refused N" and a newline
--   refused_at_text n at   "refused N at OFFSET" and a newline
--   ok_text vs            "ok", each value after a space, and a newline
--   lines_text ws         each number on a line of its own
--   PutsAt text          the text is put at a place, a byte past the end being dropped; the place after it
--   Puts text            what is answered and left where a text is put into lent bytes: its length, and the text at their front; where they
--                        are too few, 12, and they stay as they were
--   Enough k out r       with k lent bytes and more the answer is no refusal
--
-- `sets l i vs` is the list l with vs stored from place i on.
--
-- Assumes nothing.
use Rattle.std.specs.Prelude.{◌≡◌, ℕ, ◌+◌, ◌≤◌, cond, List, [], ◌∷◌, ◌++◌, map, leb, length, Result, Ok, Err}
use Rattle.std.proofs.lemmas.List.Edits.{sets}
use Rattle.lower.specs.Lists.{joined}
use Rattle.refusal.specs.declared.Refusal.{Refusal}
use Rattle.refusal.specs.declared.Refusal.TheVariants.{Room}
use Rattle.text.specs.Decimal.{decimal}

abbrev pub NEWLINE : ℕ
NEWLINE = 10

abbrev pub SPACE : ℕ
SPACE = 32

-- "refused "
abbrev pub REFUSED : List ℕ
REFUSED = 114 ∷ 101 ∷ 102 ∷ 117 ∷ 115 ∷ 101 ∷ 100 ∷ 32 ∷ []

-- " at "
abbrev pub AT : List ℕ
AT = 32 ∷ 97 ∷ 116 ∷ 32 ∷ []

-- "ok"
abbrev pub OK : List ℕ
OK = 111 ∷ 107 ∷ []

unfoldable pub refused_text : ℕ → List ℕ
refused_text n = REFUSED ++ (decimal n ++ (NEWLINE ∷ []))

unfoldable pub refused_at_text : ℕ → ℕ → List ℕ
refused_at_text n at = REFUSED ++ (decimal n ++ (AT ++ (decimal at ++ (NEWLINE ∷ []))))

abbrev pub value_text : ℕ → List ℕ
value_text v = SPACE ∷ decimal v

unfoldable pub values_text : List ℕ → List ℕ
values_text vs = joined (map value_text vs)

unfoldable pub ok_text : List ℕ → List ℕ
ok_text vs = OK ++ (values_text vs ++ (NEWLINE ∷ []))

abbrev pub line_text : ℕ → List ℕ
line_text w = decimal w ++ (NEWLINE ∷ [])

unfoldable pub lines_text : List ℕ → List ℕ
lines_text ws = joined (map line_text ws)

pub record PutsAt (text out : List ℕ) (at after : ℕ) (out' : List ℕ) : Type 0 where
  pub after_is : after ≡ at + length text
  pub bytes_are : out' ≡ sets out at text

pub record Puts (text out : List ℕ) (r : Result ℕ Refusal) (out' : List ℕ) : Type 0 where
  pub answer : r ≡ cond (leb (length text) (length out)) (Ok (length text)) (Err Room)
  pub bytes_are : out' ≡ cond (leb (length text) (length out)) (sets out 0 text) out

abbrev pub Given : Result ℕ Refusal → Type 0
Given (Ok n) = Unit {0}
Given (Err _) = ⊥

abbrev pub Enough : ℕ → List ℕ → Result ℕ Refusal → Type 0
Enough k out r = k ≤ length out → Given r
