-- The stores that a file was read into hold the system that it says. Assumes nothing.
use mathlib.Core.Path.{◌≡◌, refl, sym, ap, ◌∙◌, subst}
use mathlib.Core.Bool.{Bool, true, false, cond}
use mathlib.Core.List.{List, [], ◌∷◌, ◌++◌, map, append_assoc, append-nil}
use Prim.Native.Nat.{ℕ, suc, ◌+◌, ◌*◌, ◌≤◌, ◌<◌}
use native.Mathlib.Nat.{mul-suc, mul-zero, zero-add}
use native.Mathlib.Omega.{arith}
use lib.Dec.{eqb}
use lib.ListN.{length, take, drop, length-append, length-map}
use lib.Seq.{sets, sets-eq, take_at, drop_at}
use borrow.Author.Tests.{eqb-true}
use Rattle.operand.specs.Numbers.{Term, Operand, term_of, term_number, terms_at, operand_of}
use Rattle.operand.specs.declared.WireOperand.{WireOperand}
use Rattle.operand.proofs.Stored.{term_there, operand_there}
use Rattle.lower.specs.Lists.{All, done, more, joined}
use Rattle.lower.specs.Model.{Definition}
use Rattle.lower.specs.Stores.{stores, rows_of, definitions_of, system_of}
use Rattle.house_file.specs.Format.{Entry, LINEAR, of_kind, rows_from, definition_from, system_from, sizes_in, arity}
use Rattle.house_fill.specs.Layout.{terms_count, terms_in_all, operands_laid, terms_laid, number_from, numbers_from, shown, list_laid, destinations_laid}

-- ---- terms and operands

abbrev pub Narrow : Term → Type 0
Narrow t = (t.wire < 65536) × (t.inner < 65536)

terms_back : (o : Operand) → All Narrow o → map term_of (map term_number o) ≡ o
terms_back [] done = refl
terms_back (t ∷ o) (more k ks) = rw (term_there t k.0 k.1, terms_back o ks)

module _ (T : List ℕ) where
  operand_back : (pre post : List ℕ) (o : Operand) → T ≡ pre ++ (map term_number o ++ post) → length pre < 2147483648 → length o < 4294967296 → All Narrow o
      → operand_of T [] (number_from (length pre) (length o)) ≡ o
  unfolding operand_of
  operand_back pre post o e p q k =
      let there = operand_there (record { start = length pre; len = length o; new = false }) p q in
      ap (λ (w : WireOperand). map term_of (terms_at T [] w)) there
      ∙ ap (λ (l : List ℕ). map term_of (take (length o) (drop (length pre) l))) e
      ∙ ap (λ (l : List ℕ). map term_of (take (length o) l)) (drop_at pre (map term_number o ++ post) (length pre) refl)
      ∙ ap (map term_of) (take_at (map term_number o) post (length o) (length-map o term_number))
      ∙ terms_back o k

  operands_back : (pre post : List ℕ) (os : List Operand) → T ≡ pre ++ (operands_laid os ++ post) → length pre + terms_count os < 2147483648
      → All (λ (o : Operand). All Narrow o) os → map (operand_of T []) (numbers_from (length pre) os) ≡ os
  unfolding operands_laid numbers_from terms_count
  operands_back pre post [] e p done = refl
  operands_back pre post (o ∷ os) e p (more k ks) =
      let x = map term_number o in
      let e₁ : T ≡ pre ++ (x ++ (operands_laid os ++ post)) = e ∙ ap (λ (l : List ℕ). pre ++ l) (append_assoc x (operands_laid os) post) in
      let e₂ : T ≡ (pre ++ x) ++ (operands_laid os ++ post) = e₁ ∙ sym (append_assoc pre x (operands_laid os ++ post)) in
      let n : length (pre ++ x) ≡ length pre + length o = length-append pre x ∙ rw (length-map o term_number) in
      let r = operands_back (pre ++ x) post os e₂ (omega (arith, p, n)) ks in
      rw (operand_back pre (operands_laid os ++ post) o e₁ (omega (arith, p)) (omega (arith, p)) k)
      (ap (λ (l : List Operand). o ∷ l) (ap (λ (t : ℕ). map (operand_of T []) (numbers_from t os)) (sym n) ∙ r))

numbers_length : (t : ℕ) (os : List Operand) → length (numbers_from t os) ≡ length os
unfolding numbers_from
numbers_length t [] = refl
numbers_length t (o ∷ os) = ap suc (numbers_length (t + length o) os)

laid-length : (os : List Operand) → length (operands_laid os) ≡ terms_count os
unfolding operands_laid terms_count
laid-length [] = refl
laid-length (o ∷ os) = length-append (map term_number o) (operands_laid os) ∙ rw (length-map o term_number, laid-length os)

-- ---- entries

pub terms_laid_lem : (es : List Entry) → length (terms_laid es) ≡ terms_in_all es
unfolding terms_laid terms_in_all
terms_laid_lem [] = refl
terms_laid_lem (e ∷ es) = length-append (operands_laid e.operands) (terms_laid es) ∙ rw (laid-length e.operands, terms_laid_lem es)

-- what the layout asks of an entry: terms that fit in a number, and as many operands as its kind has
pub record Laid (e : Entry) : Type 0 where
  pub fits : All (λ (o : Operand). All Narrow o) e.operands
  pub count : length e.operands ≡ arity e.tag

pub linear_one : arity LINEAR ≡ 1
unfolding arity
linear_one = refl

-- the first of some terms laid out, and those after it
module _ (T pre post : List ℕ) (x : Entry) (es : List Entry) (e : T ≡ pre ++ (terms_laid (x ∷ es) ++ post)) where
  here : T ≡ pre ++ (operands_laid x.operands ++ (terms_laid es ++ post))
  unfolding terms_laid
  here = e ∙ ap (λ (l : List ℕ). pre ++ l) (append_assoc (operands_laid x.operands) (terms_laid es) post)

  after : T ≡ (pre ++ operands_laid x.operands) ++ (terms_laid es ++ post)
  after = here ∙ sym (append_assoc pre (operands_laid x.operands) (terms_laid es ++ post))

  after-length : length (pre ++ operands_laid x.operands) ≡ length pre + terms_count x.operands
  after-length = length-append pre (operands_laid x.operands) ∙ rw (laid-length x.operands)

module _ (T : List ℕ) where
  -- ---- rows
  row_by : (b : Bool) (t k : ℕ) (e : Entry) (l : List Entry) (L : List ℕ) → (b ≡ true → length e.operands ≡ k) → map (operand_of T []) (numbers_from t e.operands) ≡ e.operands
      → rows_of (operand_of T []) k (length l) L ≡ map (λ (e : Entry). e.operands) l
      → rows_of (operand_of T []) k (length (cond b (e ∷ l) l)) (cond b (numbers_from t e.operands) [] ++ L) ≡ map (λ (e : Entry). e.operands) (cond b (e ∷ l) l)
  row_by false t k e l L n m h = h
  row_by true t k e l L n m h =
      let v = numbers_length t e.operands ∙ n refl in
      rw (take_at (numbers_from t e.operands) L k v, drop_at (numbers_from t e.operands) L k v, m, h)

  rows_back : (kind k : ℕ) → arity kind ≡ k → (pre post rest : List ℕ) (es : List Entry) → T ≡ pre ++ (terms_laid es ++ post) → length pre + terms_in_all es < 2147483648
      → All Laid es → rows_of (operand_of T []) k (length (of_kind kind es)) (list_laid kind (length pre) es ++ rest) ≡ rows_from kind es
  unfolding terms_in_all list_laid shown
  rows_back kind k a pre post rest [] e p done = refl
  rows_back kind k a pre post rest (x ∷ es) e p (more g gs) =
      let n = after-length T pre post x es e in
      let L = list_laid kind (length pre + terms_count x.operands) es in
      let m = operands_back T pre (terms_laid es ++ post) x.operands (here T pre post x es e) (omega (arith, p)) g.fits in
      let r = rows_back kind k a (pre ++ operands_laid x.operands) post rest es (after T pre post x es e) (omega (arith, p, n)) gs in
      let r' : rows_of (operand_of T []) k (length (of_kind kind es)) (L ++ rest) ≡ rows_from kind es =
      subst (λ (t : ℕ). rows_of (operand_of T []) k (length (of_kind kind es)) (list_laid kind t es ++ rest) ≡ rows_from kind es) n r in
      ap (rows_of (operand_of T []) k (length (of_kind kind (x ∷ es)))) (append_assoc (shown kind (length pre) x) L rest)
      ∙ row_by (eqb x.tag kind) (length pre) k x (of_kind kind es) (L ++ rest) (λ h. g.count ∙ ap arity (eqb-true _ _ h) ∙ a) m r'

  -- ---- definitions
  one_definition : (d t : ℕ) (os : List Operand) (D L : List ℕ) (ds : List Definition) → length os ≡ 1 → map (operand_of T []) (numbers_from t os) ≡ os → definitions_of (operand_of T []) D L ≡ ds
      → definitions_of (operand_of T []) (d ∷ D) (numbers_from t os ++ L) ≡ record { dst = d; rhs = joined os } ∷ ds
  unfolding numbers_from
  one_definition d t [] D L ds n m h = absurd (omega (arith, n))
  one_definition d t (o ∷ []) D L ds n m h =
      let f : operand_of T [] (number_from t (length o)) ≡ joined (o ∷ []) = sym (append-nil (operand_of T [] (number_from t (length o)))) ∙ ap joined m in
      ap (λ (r : Operand). record { dst = d; rhs = r } ∷ definitions_of (operand_of T []) D L) f ∙ ap (λ (l : List Definition). record { dst = d; rhs = joined (o ∷ []) } ∷ l) h
  one_definition d t (o ∷ p ∷ os) D L ds n m h = absurd (omega (arith, n))

  definition_by : (b : Bool) (t : ℕ) (e : Entry) (l : List Entry) (L : List ℕ) → (b ≡ true → length e.operands ≡ 1) → map (operand_of T []) (numbers_from t e.operands) ≡ e.operands
      → definitions_of (operand_of T []) (map (λ (e : Entry). e.dst) l) L ≡ map definition_from l
      → definitions_of (operand_of T []) (map (λ (e : Entry). e.dst) (cond b (e ∷ l) l)) (cond b (numbers_from t e.operands) [] ++ L) ≡ map definition_from (cond b (e ∷ l) l)
  definition_by false t e l L n m h = h
  definition_by true t e l L n m h = one_definition e.dst t e.operands (map (λ (e : Entry). e.dst) l) L (map definition_from l) (n refl) m h

  definitions_back : (pre post : List ℕ) (es : List Entry) → T ≡ pre ++ (terms_laid es ++ post) → length pre + terms_in_all es < 2147483648
      → All Laid es → definitions_of (operand_of T []) (destinations_laid es) (list_laid LINEAR (length pre) es) ≡ map definition_from (of_kind LINEAR es)
  unfolding terms_in_all list_laid shown destinations_laid
  definitions_back pre post [] e p done = refl
  definitions_back pre post (x ∷ es) e p (more g gs) =
      let n = after-length T pre post x es e in
      let L = list_laid LINEAR (length pre + terms_count x.operands) es in
      let m = operands_back T pre (terms_laid es ++ post) x.operands (here T pre post x es e) (omega (arith, p)) g.fits in
      let r = definitions_back (pre ++ operands_laid x.operands) post es (after T pre post x es e) (omega (arith, p, n)) gs in
      let r' : definitions_of (operand_of T []) (destinations_laid es) L ≡ map definition_from (of_kind LINEAR es) =
      subst (λ (t : ℕ). definitions_of (operand_of T []) (destinations_laid es) (list_laid LINEAR t es) ≡ map definition_from (of_kind LINEAR es)) n r in
      definition_by (eqb x.tag LINEAR) (length pre) x (of_kind LINEAR es) L (λ h. g.count ∙ ap arity (eqb-true _ _ h) ∙ linear_one) m r'

-- ---- lengths

length-by : (b : Bool) (t k : ℕ) (e : Entry) (l : List Entry) (L : List ℕ) → (b ≡ true → length e.operands ≡ k) → length L ≡ k * length l
    → length (cond b (numbers_from t e.operands) [] ++ L) ≡ k * length (cond b (e ∷ l) l)
length-by false t k e l L n h = h
length-by true t k e l L n h =
    length-append (numbers_from t e.operands) L ∙ omega (arith, numbers_length t e.operands, n refl, h, mul-suc k (length l))

pub list_length : (kind k : ℕ) → arity kind ≡ k → (t : ℕ) (es : List Entry) → All Laid es → length (list_laid kind t es) ≡ k * length (of_kind kind es)
unfolding list_laid shown
list_length kind k a t [] done = sym (mul-zero k)
list_length kind k a t (x ∷ es) (more g gs) =
    length-by (eqb x.tag kind) t k x (of_kind kind es) (list_laid kind (t + terms_count x.operands) es) (λ h. g.count ∙ ap arity (eqb-true _ _ h) ∙ a)
    (list_length kind k a (t + terms_count x.operands) es gs)

pub sets_front : (l vs : List ℕ) → length vs ≤ length l → sets l 0 vs ≡ vs ++ drop (length vs) l
sets_front l vs h = sets-eq vs l 0 (omega (arith, h)) ∙ ap (λ (k : ℕ). vs ++ drop k l) (zero-add (length vs))

-- ---- the system

module _ (w : ℕ) (es : List Entry) (laid : All Laid es) (few : terms_in_all es < 2147483648) where
  module _ (terms : List ℕ) (room : terms_in_all es ≤ length terms) where
    T-is : sets terms 0 (terms_laid es) ≡ [] ++ (terms_laid es ++ drop (length (terms_laid es)) terms)
    T-is = sets_front terms (terms_laid es) (omega (arith, terms_laid_lem es, room))

    rows_stored : (kind k : ℕ) → arity kind ≡ k → (hs : List ℕ) → k * length (of_kind kind es) ≤ length hs
        → rows_of (operand_of (sets terms 0 (terms_laid es)) []) k (length (rows_from kind es)) (sets hs 0 (list_laid kind 0 es)) ≡ rows_from kind es
    rows_stored kind k a hs h =
        let T = sets terms 0 (terms_laid es) in
        let L = list_laid kind 0 es in
        let n = list_length kind k a 0 es laid in
        ap (rows_of (operand_of T []) k (length (rows_from kind es))) (sets_front hs L (omega (arith, n, h)))
        ∙ ap (λ (j : ℕ). rows_of (operand_of T []) k j (L ++ drop (length L) hs)) (length-map (of_kind kind es) (λ (e : Entry). e.operands))
        ∙ rows_back T kind k a [] (drop (length (terms_laid es)) terms) (drop (length L) hs) es T-is (omega (arith, few)) laid

    definitions_stored : (dsts rhss : List ℕ) → length (of_kind LINEAR es) ≤ length dsts → length (of_kind LINEAR es) ≤ length rhss
        → definitions_of (operand_of (sets terms 0 (terms_laid es)) []) (take (length (map definition_from (of_kind LINEAR es))) (sets dsts 0 (destinations_laid es)))
        (take (length (map definition_from (of_kind LINEAR es))) (sets rhss 0 (list_laid LINEAR 0 es)))
        ≡ map definition_from (of_kind LINEAR es)
    unfolding destinations_laid
    definitions_stored dsts rhss h k =
        let T = sets terms 0 (terms_laid es) in
        let D = destinations_laid es in
        let L = list_laid LINEAR 0 es in
        let m = length-map (of_kind LINEAR es) definition_from in
        let d : length D ≡ length (of_kind LINEAR es) = length-map (of_kind LINEAR es) (λ (e : Entry). e.dst) in
        let l : length L ≡ 1 * length (of_kind LINEAR es) = list_length LINEAR 1 linear_one 0 es laid in
        let N = length (map definition_from (of_kind LINEAR es)) in
        let tD : take N (sets dsts 0 D) ≡ D = ap (take N) (sets_front dsts D (omega (arith, d, h))) ∙ take_at D (drop (length D) dsts) N (d ∙ sym m) in
        let tL : take N (sets rhss 0 L) ≡ L = ap (take N) (sets_front rhss L (omega (arith, l, k))) ∙ take_at L (drop (length L) rhss) N (omega (arith, l, m)) in
        rw (tD, tL) (definitions_back T [] (drop (length (terms_laid es)) terms) es T-is (omega (arith, few)) laid)

    pub system_stored : (ands imuls bmuls zeros dsts rhss : List ℕ)
        → 3 * length (of_kind 2 es) ≤ length ands → 4 * length (of_kind 3 es) ≤ length imuls → 6 * length (of_kind 4 es) ≤ length bmuls → length (of_kind 5 es) ≤ length zeros
        → length (of_kind LINEAR es) ≤ length dsts → length (of_kind LINEAR es) ≤ length rhss
        → system_of (sizes_in (system_from w es))
        (stores (sets terms 0 (terms_laid es)) [] (sets ands 0 (list_laid 2 0 es)) (sets imuls 0 (list_laid 3 0 es)) (sets bmuls 0 (list_laid 4 0 es)) (sets zeros 0 (list_laid 5 0 es))
        (sets dsts 0 (destinations_laid es)) (sets rhss 0 (list_laid LINEAR 0 es)))
        ≡ system_from w es
    unfolding system_of system_from arity
    system_stored ands imuls bmuls zeros dsts rhss a i b o d r =
        rw (
          rows_stored 2 3 refl ands a,
          rows_stored 3 4 refl imuls i,
          rows_stored 4 6 refl bmuls b,
          rows_stored 5 1 refl zeros (omega (arith, o)),
          definitions_stored dsts rhss d r,
        )
