-- Laws of writing: bytes in two parts, and one more term, operand, row or definition. Assumes nothing.
use mathlib.Core.Path.{◌≡◌, refl, sym, ap, ◌∙◌}
use mathlib.Core.Bool.{false}
use mathlib.Core.List.{List, [], ◌∷◌, ◌++◌, map, append-nil, append_assoc}
use Prim.Native.Nat.{ℕ, zero, suc, ◌+◌, ◌-◌, ◌≤◌, ◌<◌}
use native.Mathlib.Nat.{add-zero}
use native.Mathlib.Omega.{arith}
use lib.ListN.{length, take, drop, get_or, set, length-append, length-map, length-drop, drop_of_length-le}
use lib.Seq.{sets, length-take-le}
use lib.Dec.{eqb}
use borrow.Author.Tests.{ne_eqb, ltb-false}
use Rattle.operand.specs.Numbers.{Operand, term_of, operand_at, store_for, terms_at, operand_of}
use Rattle.lower.specs.Lists.{All, done, more, sum_of, some_of}
use Rattle.lower.specs.Model.{Definition, System}
use Rattle.lower.specs.Stores.{rows_of, definitions_of, Stands}
use Rattle.lower.specs.Faults.{length_of}
use Rattle.lower.proofs.Firsts.{drop_step}
use Rattle.lower.proofs.Somes.{neither}
use Rattle.house_file.specs.Format.{le16, term_bytes, terms_bytes, operand_bytes, operands_bytes, operand_size, LINEAR, payload_bytes, Entry, row_entry, linear_entry, entry_bytes, list_bytes, file_bytes, entries_of, file_of, file_size}
use Rattle.house_file.proofs.Sizes.{terms_size, operands_size, file_size_lem}
use Rattle.house_write.specs.Sizes.{handle_size, handles_size, is_wide, MAX_PAYLOAD, definitions_wide, Ready}
use Rattle.house_write.proofs.Counting.{chunks_step}

pub sets-append : (l : List ℕ) (i : ℕ) (xs ys : List ℕ) → sets l i (xs ++ ys) ≡ sets (sets l i xs) (i + length xs) ys
sets-append l i [] ys = ap (λ (k : ℕ). sets l k ys) (sym (add-zero i))
sets-append l i (x ∷ xs) ys =
    let e : suc i + length xs ≡ i + suc (length xs) = omega arith in
    sets-append (set l i x) (suc i) xs ys ∙ ap (λ (k : ℕ). sets (sets (set l i x) (suc i) xs) k ys) e

sets_two : (l : List ℕ) (p q : ℕ) (xs ys : List ℕ) → q ≡ p + length xs → sets l p (xs ++ ys) ≡ sets (sets l p xs) q ys
sets_two l p q xs ys e = sets-append l p xs ys ∙ ap (λ (k : ℕ). sets (sets l p xs) k ys) (sym e)

pub all_first : {A : Type 0} {P : A → Type 0} {x : A} {xs : List A} → All P (x ∷ xs) → P x × All P xs
all_first (more p h) = (p, h)

pub all_at : {P : ℕ → Type 0} (l : List ℕ) (i : ℕ) → All P l → i < length l → P (get_or l i 0)
all_at [] i h p = absurd (omega arith)
all_at (x ∷ l) zero (more q h) p = q
all_at (x ∷ l) (suc i) (more q h) p = all_at l i h (omega arith)

-- ---- terms

pub sets_terms : (l ts : List ℕ) (q i : ℕ) → i < length ts
    → sets l q (terms_bytes (map term_of (drop i ts))) ≡ sets (sets l q (term_bytes (term_of (get_or ts i 0)))) (q + 6) (terms_bytes (map term_of (drop (i + 1) ts)))
unfolding terms_bytes
sets_terms l ts q i h =
    ap (λ (m : List ℕ). sets l q (terms_bytes (map term_of m))) (drop_step ts i 0 h)
    ∙ sets-append l q (term_bytes (term_of (get_or ts i 0))) (terms_bytes (map term_of (drop (i + 1) ts)))

pub sets_no_terms : (l ts : List ℕ) (q i : ℕ) → length ts ≤ i → sets l q (terms_bytes (map term_of (drop i ts))) ≡ l
unfolding terms_bytes
sets_no_terms l ts q i h = ap (λ (m : List ℕ). sets l q (terms_bytes (map term_of m))) (drop_of_length-le ts {i = i} h)

pub sets_term : (l : List ℕ) (q a b c : ℕ) → sets l q (le16 a ++ (le16 b ++ le16 c)) ≡ sets (sets (sets l q (le16 a)) (q + 2) (le16 b)) (q + 4) (le16 c)
sets_term l q a b c =
    let e : q + 2 + 2 ≡ q + 4 = omega arith in
    sets-append l q (le16 a) (le16 b ++ le16 c) ∙ sets-append (sets l q (le16 a)) (q + 2) (le16 b) (le16 c) ∙ rw e

-- ---- operands

pub sets-counted : (l : List ℕ) (q : ℕ) (ts : List ℕ) → sets l q (operand_bytes (map term_of ts)) ≡ sets (sets l q (le16 (length ts))) (q + 2) (terms_bytes (map term_of ts))
sets-counted l q ts = sets-append l q (le16 (length (map term_of ts))) (terms_bytes (map term_of ts)) ∙ rw (length-map ts term_of)

module _ (old new : List ℕ) (h : ℕ) (p : Stands old new h) where
  pub terms_length : length (terms_at old new (operand_at h)) ≡ length_of h
  terms_length =
      let e : length_of h ≤ length (drop (operand_at h).start (store_for old new (operand_at h))) = rw (length-drop (operand_at h).start (store_for old new (operand_at h))) (omega arith) in
      length-take-le (length_of h) (drop (operand_at h).start (store_for old new (operand_at h))) e

  pub operand_terms : length (operand_of old new h) ≡ length_of h
  unfolding operand_of
  operand_terms = length-map (terms_at old new (operand_at h)) term_of ∙ terms_length

  pub operand_bytes_lem : length (operand_bytes (operand_of old new h)) ≡ handle_size h
  operand_bytes_lem = omega (arith, terms_size (operand_of old new h), operand_terms)

module _ (f : ℕ → Operand) (hs : List ℕ) (i : ℕ) where
  pub sets_operands : i < length hs → (l : List ℕ) (q r : ℕ) → q + length (operand_bytes (f (get_or hs i 0))) ≡ r
      → sets l q (operands_bytes (map f (drop i hs))) ≡ sets (sets l q (operand_bytes (f (get_or hs i 0)))) r (operands_bytes (map f (drop (i + 1) hs)))
  unfolding operands_bytes
  sets_operands h l q r e =
      ap (λ (m : List ℕ). sets l q (operands_bytes (map f m))) (drop_step hs i 0 h)
      ∙ sets-append l q (operand_bytes (f (get_or hs i 0))) (operands_bytes (map f (drop (i + 1) hs)))
      ∙ rw e

  pub sets_no_operands : length hs ≤ i → (l : List ℕ) (q : ℕ) → sets l q (operands_bytes (map f (drop i hs))) ≡ l
  unfolding operands_bytes
  sets_no_operands h l q = ap (λ (m : List ℕ). sets l q (operands_bytes (map f m))) (drop_of_length-le hs {i = i} h)

module _ (old new : List ℕ) where
  -- bytes counted by the lengths are those of the operands
  pub handles_size_lem : (hs : List ℕ) → All (Stands old new) hs → sum_of operand_size (map (operand_of old new) hs) ≡ handles_size hs
  unfolding handles_size
  handles_size_lem [] done = refl
  handles_size_lem (h ∷ hs) (more p k) = omega (arith, operand_terms old new h p, handles_size_lem hs k)

  pub ready_stands : (hs : List ℕ) → All (Ready old new) hs → All (Stands old new) hs
  ready_stands [] done = done
  ready_stands (h ∷ hs) (more p k) = more p.stands (ready_stands hs k)

-- ---- rows

row_bytes : (tag : ℕ) (os : List Operand) → tag < 6 → entry_bytes (row_entry tag os) ≡ tag ∷ (le16 (sum_of operand_size os) ++ operands_bytes os)
unfolding entry_bytes payload_bytes
row_bytes tag os h =
    let e : eqb tag LINEAR ≡ false = ne_eqb tag LINEAR (λ k. omega (arith, h, k)) in
    simp (e, operands_size os)

module _ (old new : List ℕ) (tag : ℕ) (hs : List ℕ) (h : tag < 6) (p : All (Ready old new) hs) where
  pub sets-row : (l : List ℕ) (q : ℕ)
      → sets l q (entry_bytes (row_entry tag (map (operand_of old new) hs))) ≡ sets (sets l q (tag ∷ le16 (handles_size hs))) (q + 3) (operands_bytes (map (operand_of old new) hs))
  sets-row l q =
      ap (sets l q) (row_bytes tag (map (operand_of old new) hs) h)
      ∙ sets-append l q (tag ∷ le16 (sum_of operand_size (map (operand_of old new) hs))) (operands_bytes (map (operand_of old new) hs))
      ∙ rw (handles_size_lem old new hs (ready_stands old new hs p))

  pub row_size : length (entry_bytes (row_entry tag (map (operand_of old new) hs))) ≡ 3 + handles_size hs
  row_size =
      ap length (row_bytes tag (map (operand_of old new) hs) h)
      ∙ omega (arith, operands_size (map (operand_of old new) hs), handles_size_lem old new hs (ready_stands old new hs p))

-- the rows that are left after i of n
module _ (f : ℕ → Operand) (tag k n i : ℕ) (hs : List ℕ) (h : i < n) where
  rows_bytes : list_bytes (map (row_entry tag) (rows_of f k (n - i) hs))
      ≡ entry_bytes (row_entry tag (map f (take k hs))) ++ list_bytes (map (row_entry tag) (rows_of f k (n - (i + 1)) (drop k hs)))
  unfolding list_bytes
  rows_bytes = ap (λ (m : List (List ℕ)). list_bytes (map (row_entry tag) (map (map f) m))) (chunks_step k n i hs h)

  pub sets_rows : (l : List ℕ) (q r : ℕ) → q + length (entry_bytes (row_entry tag (map f (take k hs)))) ≡ r
      → sets l q (list_bytes (map (row_entry tag) (rows_of f k (n - i) hs)))
      ≡ sets (sets l q (entry_bytes (row_entry tag (map f (take k hs))))) r (list_bytes (map (row_entry tag) (rows_of f k (n - (i + 1)) (drop k hs))))
  sets_rows l q r e = ap (sets l q) rows_bytes ∙ sets-append l q (entry_bytes (row_entry tag (map f (take k hs)))) _ ∙ rw e

  pub rows_size : length (list_bytes (map (row_entry tag) (rows_of f k (n - i) hs)))
      ≡ length (entry_bytes (row_entry tag (map f (take k hs)))) + length (list_bytes (map (row_entry tag) (rows_of f k (n - (i + 1)) (drop k hs))))
  rows_size = ap length rows_bytes ∙ length-append (entry_bytes (row_entry tag (map f (take k hs)))) _

module _ (f : ℕ → Operand) (tag k : ℕ) (hs : List ℕ) where
  pub sets_no_rows : (l : List ℕ) (q : ℕ) → sets l q (list_bytes (map (row_entry tag) (rows_of f k 0 hs))) ≡ l
  unfolding list_bytes
  sets_no_rows l q = refl

  pub no_rows_size : length (list_bytes (map (row_entry tag) (rows_of f k 0 hs))) ≡ 0
  unfolding list_bytes
  no_rows_size = refl

-- ---- definitions

module _ (d : Definition) where
  definition_payload : payload_bytes (linear_entry d) ≡ le16 d.dst ++ operand_bytes d.rhs
  unfolding payload_bytes operands_bytes
  definition_payload = ap (λ (l : List ℕ). le16 d.dst ++ l) (append-nil (operand_bytes d.rhs))

  definition_bytes : entry_bytes (linear_entry d) ≡ LINEAR ∷ (le16 (2 + length (operand_bytes d.rhs)) ++ (le16 d.dst ++ operand_bytes d.rhs))
  unfolding entry_bytes
  definition_bytes =
      let l = le16 d.dst ++ operand_bytes d.rhs in
      let e : length l ≡ 2 + length (operand_bytes d.rhs) = omega arith in
      ap (λ (l : List ℕ). LINEAR ∷ (le16 (length l) ++ l)) definition_payload ∙ ap (λ (n : ℕ). LINEAR ∷ (le16 n ++ l)) e

  pub definition_size : length (entry_bytes (linear_entry d)) ≡ 5 + length (operand_bytes d.rhs)
  definition_size = ap length definition_bytes ∙ omega arith

  pub sets_definition : (l : List ℕ) (q n : ℕ) → 2 + length (operand_bytes d.rhs) ≡ n
      → sets l q (entry_bytes (linear_entry d)) ≡ sets (sets (sets l q (LINEAR ∷ le16 n)) (q + 3) (le16 d.dst)) (q + 5) (operand_bytes d.rhs)
  sets_definition l q n e =
      let e₅ : q + 3 + 2 ≡ q + 5 = omega arith in
      let m = 2 + length (operand_bytes d.rhs) in
      ap (sets l q) definition_bytes
      ∙ sets-append l q (LINEAR ∷ le16 m) (le16 d.dst ++ operand_bytes d.rhs)
      ∙ sets-append (sets l q (LINEAR ∷ le16 m)) (q + 3) (le16 d.dst) (operand_bytes d.rhs)
      ∙ rw (e₅, e)

module _ (f : ℕ → Operand) (ds hs : List ℕ) (i : ℕ) (a : i < length ds) (b : i < length hs) where
  abbrev here : Definition
  here = record { dst = get_or ds i 0; rhs = f (get_or hs i 0) }

  abbrev left : List Definition
  left = definitions_of f (drop (i + 1) ds) (drop (i + 1) hs)

  definitions_bytes : list_bytes (map linear_entry (definitions_of f (drop i ds) (drop i hs))) ≡ entry_bytes (linear_entry here) ++ list_bytes (map linear_entry left)
  unfolding list_bytes
  definitions_bytes = rw (drop_step ds i 0 a, drop_step hs i 0 b)

  pub sets_definitions : (l : List ℕ) (q r : ℕ) → q + length (entry_bytes (linear_entry here)) ≡ r
      → sets l q (list_bytes (map linear_entry (definitions_of f (drop i ds) (drop i hs))))
      ≡ sets (sets l q (entry_bytes (linear_entry here))) r (list_bytes (map linear_entry left))
  sets_definitions l q r e = ap (sets l q) definitions_bytes ∙ sets-append l q (entry_bytes (linear_entry here)) _ ∙ rw e

  pub definitions_size : length (list_bytes (map linear_entry (definitions_of f (drop i ds) (drop i hs))))
      ≡ length (entry_bytes (linear_entry here)) + length (list_bytes (map linear_entry left))
  definitions_size = ap length definitions_bytes ∙ length-append (entry_bytes (linear_entry here)) _

module _ (hs : List ℕ) (i : ℕ) (b : i < length hs) where
  pub definitions_narrow : definitions_wide (drop i hs) ≡ false → (2 + handle_size (get_or hs i 0) ≤ MAX_PAYLOAD) × (definitions_wide (drop (i + 1) hs) ≡ false)
  unfolding definitions_wide
  definitions_narrow e =
      let k = neither (is_wide (2 + handle_size (get_or hs i 0))) _ (sym (ap (some_of (λ (x : ℕ). is_wide (2 + handle_size x))) (drop_step hs i 0 b)) ∙ e) in
      (ltb-false _ _ k.0, k.1)

module _ (f : ℕ → Operand) (ds hs : List ℕ) (i : ℕ) (h : length ds ≤ i) where
  no_definitions : definitions_of f (drop i ds) (drop i hs) ≡ []
  no_definitions = rw (drop_of_length-le ds {i = i} h)

  pub sets_no_definitions : (l : List ℕ) (q : ℕ) → sets l q (list_bytes (map linear_entry (definitions_of f (drop i ds) (drop i hs)))) ≡ l
  unfolding list_bytes
  sets_no_definitions l q = rw no_definitions

  pub no_definitions_size : length (list_bytes (map linear_entry (definitions_of f (drop i ds) (drop i hs)))) ≡ 0
  unfolding list_bytes
  no_definitions_size = rw no_definitions

-- ---- the whole file

list_append : (a b : List Entry) → list_bytes (a ++ b) ≡ list_bytes a ++ list_bytes b
unfolding list_bytes
list_append [] b = refl
list_append (e ∷ a) b = ap (λ (l : List ℕ). entry_bytes e ++ l) (list_append a b) ∙ sym (append_assoc (entry_bytes e) (list_bytes a) (list_bytes b))

module _ (a i b o d : List Entry) where
  lists_apart : list_bytes (a ++ (i ++ (b ++ (o ++ d)))) ≡ list_bytes a ++ (list_bytes i ++ (list_bytes b ++ (list_bytes o ++ list_bytes d)))
  lists_apart =
      list_append a (i ++ (b ++ (o ++ d)))
      ∙ ap (λ (l : List ℕ). list_bytes a ++ l)
      (list_append i (b ++ (o ++ d))
      ∙ ap (λ (l : List ℕ). list_bytes i ++ l) (list_append b (o ++ d) ∙ ap (λ (l : List ℕ). list_bytes b ++ l) (list_append o d)))

  -- each list after the one before it
  module _ (p p₁ p₂ p₃ p₄ : ℕ) (e₁ : p₁ ≡ p + length (list_bytes a)) (e₂ : p₂ ≡ p₁ + length (list_bytes i)) (e₃ : p₃ ≡ p₂ + length (list_bytes b)) (e₄ : p₄ ≡ p₃ + length (list_bytes o)) where
    pub sets_lists : (l : List ℕ) → sets l p (list_bytes (a ++ (i ++ (b ++ (o ++ d)))))
        ≡ sets (sets (sets (sets (sets l p (list_bytes a)) p₁ (list_bytes i)) p₂ (list_bytes b)) p₃ (list_bytes o)) p₄ (list_bytes d)
    sets_lists l =
        let l₁ = sets l p (list_bytes a) in
        let l₂ = sets l₁ p₁ (list_bytes i) in
        let l₃ = sets l₂ p₂ (list_bytes b) in
        ap (sets l p) lists_apart
        ∙ sets_two l p p₁ (list_bytes a) (list_bytes i ++ (list_bytes b ++ (list_bytes o ++ list_bytes d))) e₁
        ∙ sets_two l₁ p₁ p₂ (list_bytes i) (list_bytes b ++ (list_bytes o ++ list_bytes d)) e₂
        ∙ sets_two l₂ p₂ p₃ (list_bytes b) (list_bytes o ++ list_bytes d) e₃
        ∙ sets_two l₃ p₃ p₄ (list_bytes o) (list_bytes d) e₄

    pub lists_size : p₄ + length (list_bytes d) ≡ p + length (list_bytes (a ++ (i ++ (b ++ (o ++ d)))))
    lists_size =
        omega (
          arith,
          ap length lists_apart,
          length-append (list_bytes a) (list_bytes i ++ (list_bytes b ++ (list_bytes o ++ list_bytes d))),
          length-append (list_bytes i) (list_bytes b ++ (list_bytes o ++ list_bytes d)),
          length-append (list_bytes b) (list_bytes o ++ list_bytes d),
          length-append (list_bytes o) (list_bytes d),
        )

pub sets_file : (l : List ℕ) (w q : ℕ) (es : List Entry) → q ≡ 5 + length (list_bytes es)
    → sets l 0 (file_bytes w es) ≡ sets (sets (sets (sets l 0 (1 ∷ le16 2)) 3 (le16 w)) 5 (list_bytes es)) q (7 ∷ le16 0)
unfolding file_bytes
sets_file l w q es e =
    sets-append l 0 (1 ∷ (le16 2 ++ le16 w)) (list_bytes es ++ (7 ∷ le16 0))
    ∙ sets-append (sets (sets l 0 (1 ∷ le16 2)) 3 (le16 w)) 5 (list_bytes es) (7 ∷ le16 0)
    ∙ rw (← e)

pub file_length : (p : System) → length (file_of p) ≡ file_size (entries_of p)
unfolding file_of
file_length p = file_size_lem p.wires (entries_of p)

pub file_ends : (w : ℕ) (es : List Entry) → length (file_bytes w es) ≡ 5 + length (list_bytes es) + 3
unfolding file_bytes
file_ends w es = omega (arith, length-append (list_bytes es) (7 ∷ le16 0))
