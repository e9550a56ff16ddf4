-- From stores to the system that stands in them: rows by arity, definitions, and what writing changes. Assumes nothing.
use mathlib.Core.Path.{◌≡◌, refl, sym, ap, ◌∙◌}
use mathlib.Core.List.{List, [], ◌∷◌, ◌++◌, map, append_assoc}
use mathlib.Core.Bool.{Bool, true, false, cond}
use Prim.Native.Nat.{ℕ, zero, suc, ◌+◌, ◌*◌, ◌≤◌, ◌<◌}
use native.Mathlib.Omega.{arith}
use native.Mathlib.Nat.{mul-zero, mul-suc}
use lib.ListN.{length, take, drop, get_or, set, length-drop, length-map, length-append, get_or-map}
use lib.Seq.{length-take-le, get_or-take, get_or-drop, drop-drop, take-add, take-take, take-set-lt, take-set-le, drop-set-lt, drop-set-add, sets, sets-eq, take_at, drop_at}
use Rattle.operand.specs.Numbers.{Operand, term_of, operand_at, store_for, terms_at, operand_of}
use Rattle.lower.specs.declared.Sizes.{Sizes}
use Rattle.lower.specs.Lists.{All, done, more, joined, sum_of}
use Rattle.lower.specs.Model.{Row, Definition, row_operands, definition_operands, operands_of, terms_of, destinations}
use Rattle.lower.specs.Stores.{Stores, stores, chunks, rows_of, definitions_of, system_of, row_handles, handles_of, handles_in, Stands, Placed}
use Rattle.lower.specs.Faults.{length_of, terms_in}

-- ---- lists

pub map-set : {A B : Type 0} (f : A → B) (l : List A) (i : ℕ) (a : A) → map f (set l i a) ≡ set (map f l) i (f a)
map-set f [] i a = refl
map-set f (x ∷ l) zero a = refl
map-set f (x ∷ l) (suc i) a = ap (λ (t : List _). f x ∷ t) (map-set f l i a)

pub map-join : {A B : Type 0} (f : A → B) (a b : List A) → map f (a ++ b) ≡ map f a ++ map f b
map-join f [] b = refl
map-join f (x ∷ a) b = ap (λ (t : List _). f x ∷ t) (map-join f a b)

pub map-after : {A B C : Type 0} (g : B → C) (f : A → B) (l : List A) → map g (map f l) ≡ map (λ (x : A). g (f x)) l
map-after g f [] = refl
map-after g f (x ∷ l) = ap (λ (t : List _). g (f x) ∷ t) (map-after g f l)

-- ---- rows of k operands

module _ (k : ℕ) where
  pub chunks-length : (n : ℕ) (hs : List ℕ) → length (chunks k n hs) ≡ n
  chunks-length zero hs = refl
  chunks-length (suc n) hs = ap suc (chunks-length n (drop k hs))

  pub chunks_flat : (n : ℕ) (hs : List ℕ) → joined (chunks k n hs) ≡ take (k * n) hs
  chunks_flat zero hs = rw (mul-zero k)
  chunks_flat (suc n) hs =
      let e : k * suc n ≡ k + k * n = mul-suc k n ∙ omega arith in
      ap (λ (l : List ℕ). take k hs ++ l) (chunks_flat n (drop k hs)) ∙ sym (rw e (take-add k (k * n) hs))

  pub chunk_at : (n j : ℕ) (hs : List ℕ) → j < n → get_or (chunks k n hs) j [] ≡ take k (drop (k * j) hs)
  chunk_at zero j hs p = absurd (omega arith)
  chunk_at (suc n) zero hs p = rw (mul-zero k)
  chunk_at (suc n) (suc j) hs p =
      let e : k + k * j ≡ k * suc j = sym (mul-suc k j ∙ omega arith) in
      chunk_at n j (drop k hs) (omega arith) ∙ rw (drop-drop (k * j) k hs, e)

  -- setting one handle sets one handle of one row
  pub chunks-set : (n j i : ℕ) (hs : List ℕ) (h : ℕ) → j < n → i < k
      → chunks k n (set hs (k * j + i) h) ≡ set (chunks k n hs) j (set (get_or (chunks k n hs) j []) i h)
  chunks-set zero j i hs h p q = absurd (omega arith)
  chunks-set (suc n) zero i hs h p q =
      let e : k * 0 + i ≡ i = rw (mul-zero k) (omega arith) in
      rw (e, take-set-lt k hs i h q, drop-set-lt k hs i h q)
  chunks-set (suc n) (suc j) i hs h p q =
      let e : k * suc j + i ≡ k + (k * j + i) = let m = mul-suc k j in omega arith in
      let u : k ≤ k + (k * j + i) = omega arith in
      rw (e, take-set-le k hs (k + (k * j + i)) h u, drop-set-add k hs (k * j + i) h)
      (ap (λ (l : List (List ℕ)). take k hs ∷ l) (chunks-set n j i (drop k hs) h (omega arith) q))

  drop-sets : (hs : List ℕ) (m : ℕ) (vs : List ℕ) → drop k (sets hs (k + m) vs) ≡ sets (drop k hs) m vs
  drop-sets hs m [] = refl
  drop-sets hs m (v ∷ vs) =
      let e : suc (k + m) ≡ k + suc m = omega arith in
      ap (λ (i : ℕ). drop k (sets (set hs (k + m) v) i vs)) e ∙ drop-sets (set hs (k + m) v) (suc m) vs ∙ rw (drop-set-add k hs m v)

  take-sets : (hs : List ℕ) (at : ℕ) (vs : List ℕ) → k ≤ at → take k (sets hs at vs) ≡ take k hs
  take-sets hs at [] p = refl
  take-sets hs at (v ∷ vs) p = take-sets (set hs at v) (suc at) vs (omega arith) ∙ take-set-le k hs at v p

  -- writing k handles over a row sets the row
  pub chunks-sets : (n j : ℕ) (hs vs : List ℕ) → j < n → k * n ≤ length hs → length vs ≡ k → chunks k n (sets hs (k * j) vs) ≡ set (chunks k n hs) j vs
  chunks-sets zero j hs vs p q e = absurd (omega arith)
  chunks-sets (suc n) zero hs vs p q e =
      let m = mul-suc k n in
      let u : 0 + length vs ≤ length hs = omega arith in
      let z : 0 + length vs ≡ k = omega arith in
      let x : sets hs 0 vs ≡ vs ++ drop k hs = sets-eq vs hs 0 u ∙ ap (λ (i : ℕ). vs ++ drop i hs) z in
      rw (mul-zero k, x, take_at vs (drop k hs) k e, drop_at vs (drop k hs) k e)
  chunks-sets (suc n) (suc j) hs vs p q e =
      let m = mul-suc k n in
      let a : k * suc j ≡ k + k * j = mul-suc k j ∙ omega arith in
      let l : k * n ≤ length (drop k hs) = rw (length-drop k hs) (omega arith) in
      rw (a, take-sets hs (k + k * j) vs (omega arith), drop-sets hs (k * j) vs)
      (ap (λ (t : List (List ℕ)). take k hs ∷ t) (chunks-sets n j (drop k hs) vs (omega arith) l e))

  -- the first rows are rows of the first handles
  pub chunks-take : (m n : ℕ) (hs : List ℕ) → m ≤ n → take m (chunks k n hs) ≡ chunks k m hs
  chunks-take zero n hs p = refl
  chunks-take (suc m) zero hs p = absurd (omega arith)
  chunks-take (suc m) (suc n) hs p = ap (λ (l : List (List ℕ)). take k hs ∷ l) (chunks-take m n (drop k hs) (omega arith))

pub joined-map : {A B : Type 0} (f : A → B) (l : List (List A)) → joined (map (map f) l) ≡ map f (joined l)
joined-map f [] = refl
joined-map f (x ∷ l) = ap (λ (t : List _). map f x ++ t) (joined-map f l) ∙ sym (map-join f x (joined l))

-- the same of the model's rows
module _ (f : ℕ → Operand) (k n : ℕ) (hs : List ℕ) where
  pub rows_length : length (rows_of f k n hs) ≡ n
  rows_length = length-map (chunks k n hs) (map f) ∙ chunks-length k n hs

  -- all operands of the rows are those of the handles, in order
  pub rows_flat : joined (rows_of f k n hs) ≡ map f (take (k * n) hs)
  rows_flat = joined-map f (chunks k n hs) ∙ ap (map f) (chunks_flat k n hs)

  pub row_at : (j : ℕ) → j < n → get_or (rows_of f k n hs) j [] ≡ map f (take k (drop (k * j) hs))
  row_at j p = get_or-map (map f) (chunks k n hs) j [] ∙ ap (map f) (chunk_at k n j hs p)

  -- setting one handle sets one operand of one row
  pub rows_set : (j i h : ℕ) → j < n → i < k → rows_of f k n (set hs (k * j + i) h) ≡ set (rows_of f k n hs) j (set (get_or (rows_of f k n hs) j []) i (f h))
  rows_set j i h p q =
      ap (map (map f)) (chunks-set k n j i hs h p q)
      ∙ map-set (map f) (chunks k n hs) j (set (get_or (chunks k n hs) j []) i h)
      ∙ ap (set (rows_of f k n hs) j) (map-set f (get_or (chunks k n hs) j []) i h ∙ ap (λ (r : Row). set r i (f h)) (sym (get_or-map (map f) (chunks k n hs) j [])))

-- ---- definitions

module _ (f : ℕ → Operand) where
  pub definitions_rhs : (ds hs : List ℕ) → length ds ≡ length hs → map (λ (d : Definition). d.rhs) (definitions_of f ds hs) ≡ map f hs
  definitions_rhs [] [] e = refl
  definitions_rhs [] (h ∷ hs) e = absurd (omega arith)
  definitions_rhs (d ∷ ds) [] e = refl
  definitions_rhs (d ∷ ds) (h ∷ hs) e = ap (λ (l : List Operand). f h ∷ l) (definitions_rhs ds hs (omega arith))

  pub definitions_dst : (ds hs : List ℕ) → length ds ≡ length hs → map (λ (d : Definition). d.dst) (definitions_of f ds hs) ≡ ds
  definitions_dst [] hs e = refl
  definitions_dst (d ∷ ds) [] e = absurd (omega arith)
  definitions_dst (d ∷ ds) (h ∷ hs) e = ap (λ (l : List ℕ). d ∷ l) (definitions_dst ds hs (omega arith))

  pub definitions_length : (ds hs : List ℕ) → length ds ≡ length hs → length (definitions_of f ds hs) ≡ length hs
  definitions_length [] [] e = refl
  definitions_length [] (h ∷ hs) e = absurd (omega arith)
  definitions_length (d ∷ ds) [] e = refl
  definitions_length (d ∷ ds) (h ∷ hs) e = ap suc (definitions_length ds hs (omega arith))

  pub definition_at : (ds hs : List ℕ) (i : ℕ) (z : Definition) → i < length ds → i < length hs
      → get_or (definitions_of f ds hs) i z ≡ record { dst = get_or ds i 0; rhs = f (get_or hs i 0) }
  definition_at [] hs i z p q = absurd (omega arith)
  definition_at (d ∷ ds) [] i z p q = absurd (omega arith)
  definition_at (d ∷ ds) (h ∷ hs) zero z p q = refl
  definition_at (d ∷ ds) (h ∷ hs) (suc i) z p q = definition_at ds hs i z (omega arith) (omega arith)

  pub definitions_set : (ds hs : List ℕ) (i d h : ℕ)
      → definitions_of f (set ds i d) (set hs i h) ≡ set (definitions_of f ds hs) i (record { dst = d; rhs = f h })
  definitions_set [] hs i d h = refl
  definitions_set (a ∷ ds) [] zero d h = refl
  definitions_set (a ∷ ds) [] (suc i) d h = refl
  definitions_set (a ∷ ds) (b ∷ hs) zero d h = refl
  definitions_set (a ∷ ds) (b ∷ hs) (suc i) d h = ap (λ (l : List Definition). record { dst = a; rhs = f b } ∷ l) (definitions_set ds hs i d h)

-- ---- one operand and its store

module _ (old new : List ℕ) (h : ℕ) (p : Stands old new h) where
  pub operand_length : length (operand_of old new h) ≡ (operand_at h).len
  unfolding operand_of
  operand_length =
      let e : (operand_at h).len ≤ length (drop (operand_at h).start (store_for old new (operand_at h))) = rw (length-drop (operand_at h).start (store_for old new (operand_at h))) (omega arith) in
      length-map (terms_at old new (operand_at h)) term_of ∙ length-take-le (operand_at h).len (drop (operand_at h).start (store_for old new (operand_at h))) e

  pub term_at_lem : (i : ℕ) → i < (operand_at h).len → get_or (operand_of old new h) i (term_of 0) ≡ term_of (get_or (store_for old new (operand_at h)) ((operand_at h).start + i) 0)
  unfolding operand_of
  term_at_lem i q = get_or-map term_of (terms_at old new (operand_at h)) i 0
      ∙ ap term_of (get_or-take (operand_at h).len (drop (operand_at h).start (store_for old new (operand_at h))) i 0 q ∙ get_or-drop (operand_at h).start (store_for old new (operand_at h)) i 0)

-- the operand lies in the old store, or below n in the new one
abbrev pub Below : ℕ → ℕ → Type 0
Below n h = (operand_at h).new ≡ true → (operand_at h).start + (operand_at h).len ≤ n

take-drop-take : {A : Type 0} (a b n : ℕ) (l : List A) → a + b ≤ n → take b (drop a (take n l)) ≡ take b (drop a l)
take-drop-take zero b n l p = take-take b n l (omega arith)
take-drop-take (suc a) b zero l p = absurd (omega arith)
take-drop-take (suc a) b (suc n) [] p = refl
take-drop-take (suc a) b (suc n) (x ∷ l) p = take-drop-take a b n l (omega arith)

-- what is written above n in the new store changes no operand below
pub operand_kept : (old new new' : List ℕ) (n h : ℕ) → take n new ≡ take n new' → Below n h → operand_of old new' h ≡ operand_of old new h
unfolding operand_of
operand_kept old new new' n h e b = ap (map term_of) (go (operand_at h).new b)
  where
    go : (v : Bool) → (v ≡ true → (operand_at h).start + (operand_at h).len ≤ n) → take (operand_at h).len (drop (operand_at h).start (cond v new' old)) ≡ take (operand_at h).len (drop (operand_at h).start (cond v new old))
    go false q = refl
    go true q =
        sym (take-drop-take (operand_at h).start (operand_at h).len n new' (q refl))
        ∙ ap (λ (l : List ℕ). take (operand_at h).len (drop (operand_at h).start l)) (sym e)
        ∙ take-drop-take (operand_at h).start (operand_at h).len n new (q refl)

pub sets_part : (new ts : List ℕ) (at : ℕ) → at + length ts ≤ length new → take (length ts) (drop at (sets new at ts)) ≡ ts
sets_part new ts at p =
    let u : at ≤ length new = omega arith in
    rw (sets-eq ts new at p, append_assoc (take at new) ts (drop (at + length ts) new), drop_at (take at new) (ts ++ drop (at + length ts) new) at (length-take-le at new u))
    (take_at ts (drop (at + length ts) new) (length ts) refl)

-- terms written to the new store, and a handle for them
pub operand_written : (old new ts : List ℕ) (at h : ℕ) → (operand_at h).new ≡ true → (operand_at h).start ≡ at → (operand_at h).len ≡ length ts → at + length ts ≤ length new
    → operand_of old (sets new at ts) h ≡ map term_of ts
unfolding operand_of
operand_written old new ts at h a b c p = rw (a, b, c) (ap (map term_of) (sets_part new ts at p))

pub sets_below : (new ts : List ℕ) (at n : ℕ) → n ≤ at → take n (sets new at ts) ≡ take n new
sets_below new [] at n p = refl
sets_below new (t ∷ ts) at n p = sets_below (set new at t) ts (suc at) n (omega arith) ∙ take-set-le n new at t p

-- ---- the whole system

module _ {A : Type 0} (P : A → Type 0) where
  pub all_left : (a b : List A) → All P (a ++ b) → All P a
  all_left [] b h = done
  all_left (x ∷ a) b (more p h) = more p (all_left a b h)

  pub all_right : (a b : List A) → All P (a ++ b) → All P b
  all_right [] b h = h
  all_right (x ∷ a) b (more p h) = all_right a b h

  pub all_both : {a b : List A} → All P a → All P b → All P (a ++ b)
  all_both done k = k
  all_both (more p h) k = more p (all_both h k)

pub all_imp : {A : Type 0} {P Q : A → Type 0} → ((x : A) → P x → Q x) → (l : List A) → All P l → All Q l
all_imp g [] done = done
all_imp g (x ∷ l) (more p h) = more (g x p) (all_imp g l h)

pub all_map : {A B : Type 0} (P : B → Type 0) (f : A → B) (l : List A) → All (λ (x : A). P (f x)) l → All P (map f l)
all_map P f [] done = done
all_map P f (x ∷ l) (more p h) = more p (all_map P f l h)

module _ (f g : ℕ → Operand) where
  pub map_same : (l : List ℕ) → All (λ (h : ℕ). f h ≡ g h) l → map f l ≡ map g l
  map_same [] done = refl
  map_same (x ∷ l) (more p h) = rw (p, map_same l h)

  -- rows whose handles mean the same are the same
  pub rows_same : (k n : ℕ) (hs : List ℕ) → All (λ (h : ℕ). f h ≡ g h) (take (k * n) hs) → rows_of f k n hs ≡ rows_of g k n hs
  rows_same k zero hs h = refl
  rows_same k (suc n) hs h =
      let e : take (k * suc n) hs ≡ take k hs ++ take (k * n) (drop k hs) = let m : k * suc n ≡ k + k * n = mul-suc k n ∙ omega arith in rw m (take-add k (k * n) hs) in
      let u = rw e at h in
      rw (map_same (take k hs) (all_left _ (take k hs) _ u), rows_same k n (drop k hs) (all_right _ (take k hs) _ u))

  pub definitions_same : (ds hs : List ℕ) → All (λ (h : ℕ). f h ≡ g h) hs → definitions_of f ds hs ≡ definitions_of g ds hs
  definitions_same [] hs h = refl
  definitions_same (d ∷ ds) [] h = refl
  definitions_same (d ∷ ds) (x ∷ hs) (more p h) = rw (p, definitions_same ds hs h)

-- what is written above n in the new store changes nothing of a system whose operands lie below
pub system_kept : (z : Sizes) (old new new' ands imuls bmuls zeros dsts rhss : List ℕ) (n : ℕ) → take n new ≡ take n new'
    → All (Below n) (handles_of z ands imuls bmuls zeros rhss)
    → system_of z (stores old new' ands imuls bmuls zeros dsts rhss) ≡ system_of z (stores old new ands imuls bmuls zeros dsts rhss)
unfolding system_of row_handles
system_kept z old new new' ands imuls bmuls zeros dsts rhss n e h =
    let f = operand_of old new' in let g = operand_of old new in
    let one : z.zeros ≡ 1 * z.zeros = omega arith in
    let u = all_imp {Q = λ (x : ℕ). f x ≡ g x} (λ x b. operand_kept old new new' n x e b) _ h in
    let q = all_left _ (row_handles z ands imuls bmuls zeros) _ u in let l = all_right _ (row_handles z ands imuls bmuls zeros) _ u in
    let a = all_left _ (take (3 * z.ands) ands) _ q in let r = all_right _ (take (3 * z.ands) ands) _ q in
    let i = all_left _ (take (4 * z.imuls) imuls) _ r in let r2 = all_right _ (take (4 * z.imuls) imuls) _ r in
    let b = all_left _ (take (6 * z.bmuls) bmuls) _ r2 in let o = all_right _ (take (6 * z.bmuls) bmuls) _ r2 in
    rw (
      rows_same f g 3 z.ands ands a,
      rows_same f g 4 z.imuls imuls i,
      rows_same f g 6 z.bmuls bmuls b,
      rows_same f g 1 z.zeros zeros (rw one at o),
      definitions_same f g (take z.linears dsts) (take z.linears rhss) l,
    )

-- an operand that stands where there is no new store lies in the old one, or is empty
pub below_none : (old : List ℕ) (n h : ℕ) → Stands old [] h → Below n h
below_none old n h p b = omega (arith, rw b at p)

module _ (z : Sizes) (s : Stores) where
  -- the operands of the rows are those of their handles
  pub rows_model : row_operands (system_of z s) ≡ map (operand_of s.old s.new) (row_handles z s.ands s.imuls s.bmuls s.zeros)
  unfolding row_operands system_of row_handles
  rows_model =
      let f = operand_of s.old s.new in
      let one : 1 * z.zeros ≡ z.zeros = omega arith in
      rw (
        rows_flat f 3 z.ands s.ands,
        rows_flat f 4 z.imuls s.imuls,
        rows_flat f 6 z.bmuls s.bmuls,
        rows_flat f 1 z.zeros s.zeros,
        one,
      )
      (sym (simp map-join))

  module _ (a : z.linears ≤ length s.dsts) (b : z.linears ≤ length s.rhss) where
    same_length : length (take z.linears s.dsts) ≡ length (take z.linears s.rhss)
    same_length = length-take-le _ s.dsts a ∙ sym (length-take-le _ s.rhss b)

    pub definitions_model : definition_operands (system_of z s) ≡ map (operand_of s.old s.new) (take z.linears s.rhss)
    unfolding definition_operands system_of
    definitions_model = definitions_rhs (operand_of s.old s.new) (take z.linears s.dsts) (take z.linears s.rhss) same_length

    pub destinations_model : destinations (system_of z s).linears ≡ take z.linears s.dsts
    unfolding system_of
    destinations_model = definitions_dst (operand_of s.old s.new) (take z.linears s.dsts) (take z.linears s.rhss) same_length

    pub linears_length : length (system_of z s).linears ≡ z.linears
    unfolding system_of
    linears_length =
        definitions_length (operand_of s.old s.new) (take z.linears s.dsts) (take z.linears s.rhss) same_length
        ∙ length-take-le _ s.rhss b

    -- the operands of the system are those of the handles
    pub operands_model : operands_of (system_of z s) ≡ map (operand_of s.old s.new) (handles_in z s)
    operands_model =
        rw (rows_model, definitions_model)
        (sym (map-join (operand_of s.old s.new) (row_handles z s.ands s.imuls s.bmuls s.zeros) (take z.linears s.rhss)))

  -- terms counted by operand length are the terms of the system
  pub terms_model : Placed z s → terms_in z s ≡ length (terms_of (system_of z s))
  terms_model y =
      sym (ap (λ (l : List Operand). length (joined l)) (operands_model y.dsts_there y.rhss_there) ∙ counted (handles_in z s) y.operands_there)
    where
      counted : (l : List ℕ) → All (Stands s.old s.new) l → length (joined (map (operand_of s.old s.new) l)) ≡ sum_of length_of l
      counted [] done = refl
      counted (x ∷ l) (more p h) = length-append (operand_of s.old s.new x) _ ∙ rw (operand_length s.old s.new x p, counted l h)
