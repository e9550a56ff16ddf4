-- How the entries of a file lie in the lent stores: the terms of all in file order, and an operand as the number of its part of the terms.
--
--   terms_count os      how many terms the operands have; terms_in_all es, how many the entries have
--   operands_laid os    the numbers of their terms; terms_laid es, those of the entries' terms in file order
--   number_from t o     the number of an operand whose terms start at place t of the old store; numbers_from, of operands one after the other
--   shown kind t e     what an entry adds to the list of a kind, its terms starting at t: nothing to another kind's
--   list_laid kind t es the list of a kind: the operands of its entries, in file order, each starting where the terms before it end
--   destinations_laid   the destinations of the Linears
--   Filled             the seven stores after the entries are laid out in them, each from its front on, the rest as it was
--
-- `sets l i vs` is the list l with vs stored from place i on.
--
-- Assumes nothing.
use Rattle.std.specs.Prelude.{◌≡◌, false, cond, List, [], ◌∷◌, ◌++◌, map, ℕ, ◌+◌, eqb, length}
use Rattle.std.proofs.lemmas.List.Edits.{sets}
use Rattle.operand.specs.Numbers.{Operand, term_number, operand_number}
use Rattle.lower.specs.Lists.{joined, sum_of}
use Rattle.house_file.specs.Format.{Entry, LINEAR, of_kind}

unfoldable pub terms_count : List Operand → ℕ
terms_count os = sum_of (λ (o : Operand). length o) os

unfoldable pub terms_in_all : List Entry → ℕ
terms_in_all es = sum_of (λ (e : Entry). terms_count e.operands) es

unfoldable pub operands_laid : List Operand → List ℕ
operands_laid os = joined (map (map term_number) os)

unfoldable pub terms_laid : List Entry → List ℕ
terms_laid es = joined (map (λ (e : Entry). operands_laid e.operands) es)

abbrev pub number_from : ℕ → ℕ → ℕ
number_from start len = operand_number (record { start = start; len = len; new = false })

unfoldable pub numbers_from : ℕ → List Operand → List ℕ
numbers_from t [] = []
numbers_from t (o ∷ os) = number_from t (length o) ∷ numbers_from (t + length o) os

unfoldable pub shown : ℕ → ℕ → Entry → List ℕ
shown kind t e = cond (eqb e.tag kind) (numbers_from t e.operands) []

unfoldable pub list_laid : ℕ → ℕ → List Entry → List ℕ
list_laid kind t [] = []
list_laid kind t (e ∷ es) = shown kind t e ++ list_laid kind (t + terms_count e.operands) es

unfoldable pub destinations_laid : List Entry → List ℕ
destinations_laid es = map (λ (e : Entry). e.dst) (of_kind LINEAR es)

pub record Filled (es : List Entry) (terms ands imuls bmuls zeros dsts rhss terms' ands' imuls' bmuls' zeros' dsts' rhss' : List ℕ) : Type 0 where
  pub terms_are : terms' ≡ sets terms 0 (terms_laid es)
  pub ands_are : ands' ≡ sets ands 0 (list_laid 2 0 es)
  pub imuls_are : imuls' ≡ sets imuls 0 (list_laid 3 0 es)
  pub bmuls_are : bmuls' ≡ sets bmuls 0 (list_laid 4 0 es)
  pub zeros_are : zeros' ≡ sets zeros 0 (list_laid 5 0 es)
  pub dsts_are : dsts' ≡ sets dsts 0 (destinations_laid es)
  pub rhss_are : rhss' ≡ sets rhss 0 (list_laid LINEAR 0 es)
