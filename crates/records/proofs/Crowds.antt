-- A system that has too many definitions, all of them there: its first fault, list by list. Assumes nothing.
use mathlib.Core.Path.{◌≡◌, refl, sym, ap, ap₂, ◌∙◌}
use mathlib.Core.Logic.{◌⊎◌, inl, inr, ⊎_elim}
use Prim.Native.Nat.{ℕ, zero, suc, min, ◌+◌, ◌≤◌, ◌<◌}
use native.Mathlib.Omega.{arith}
use mathlib.Core.Bool.{Bool, true, false}
use mathlib.Core.List.{List, [], ◌∷◌}
use lib.Dec.{ltb, leb}
use lib.ListN.{length, take, drop, get_or}
use Rattle.std.proofs.lemmas.List.{take-map}
use borrow.Author.Tests.{le-leb, lt-leb, lt-ltb, le-ltb}
use Rattle.lower.specs.declared.Sizes.{Sizes}
use Rattle.lower.specs.Stores.{Stores, stores}
use Rattle.lower.specs.Faults.{or_else, unless, pairs_fault, rows_fault, definitions_fault, places_fault, full_fault, memory_fault, terms_in}
use Rattle.lower.proofs.Firsts.{else_some, else_none, drop_step}
use Rattle.records.specs.declared.Definition.{Definition}
use Rattle.records.specs.Records.{dsts_of, rhss_of, crowded, rows_only, crowd_fault}
use Rattle.records.proofs.Laws.{none, lt_or_le}

-- ---- faults, one after the other
pub else_assoc : (a b c : ℕ) → or_else (or_else a b) c ≡ or_else a (or_else b c)
else_assoc zero b c = refl
else_assoc (suc a) b c = refl

pub else_zero : (a : ℕ) → or_else a 0 ≡ a
else_zero zero = refl
else_zero (suc a) = refl

-- a fault in the second place is a fault
pub else_not : (a b : ℕ) → (b ≡ 0 → ⊥) → or_else a b ≡ 0 → ⊥
else_not zero b h e = h e
else_not (suc a) b h e = omega (arith, e)

five : (a b c d x : ℕ) → or_else a (or_else b (or_else c (or_else d x))) ≡ or_else (or_else a (or_else b (or_else c (or_else d 0)))) x
five zero zero zero d x = ap (λ (n : ℕ). or_else n x) (sym (else_zero d))
five zero zero (suc c) d x = refl
five zero (suc b) c d x = refl
five (suc a) b c d x = refl

-- ---- rows and definitions
none_placed : (wires : ℕ) (old new ds hs : List ℕ) → definitions_fault wires old new 0 ds hs ≡ 0
unfolding definitions_fault
none_placed wires old new ds hs = rw (le-leb 0 (length ds) (omega arith), le-leb 0 (length hs) (omega arith))

-- a system with no definition has the rows' fault
pub rows_placed : (z : Sizes) (old new ands imuls bmuls zeros ds rs ds' rs' : List ℕ)
    → places_fault (rows_only z) (stores old new ands imuls bmuls zeros ds rs) ≡ places_fault (rows_only z) (stores old new ands imuls bmuls zeros ds' rs')
unfolding places_fault
rows_placed z old new ands imuls bmuls zeros ds rs ds' rs' = rw (none_placed z.wires old new ds rs, none_placed z.wires old new ds' rs')

pub rows_first : (z : Sizes) (old new ands imuls bmuls zeros ds rs ds' rs' : List ℕ)
    → places_fault z (stores old new ands imuls bmuls zeros ds rs) ≡ or_else (places_fault (rows_only z) (stores old new ands imuls bmuls zeros ds' rs')) (definitions_fault z.wires old new z.linears ds rs)
unfolding places_fault
rows_first z old new ands imuls bmuls zeros ds rs ds' rs' =
    five (rows_fault z.wires old new 3 z.ands ands) (rows_fault z.wires old new 4 z.imuls imuls) (rows_fault z.wires old new 6 z.bmuls bmuls) (rows_fault z.wires old new 1 z.zeros zeros)
    (definitions_fault z.wires old new z.linears ds rs)
    ∙ rw (none_placed z.wires old new ds' rs')

pub long_fault : (w : ℕ) (old new : List ℕ) (n : ℕ) (ds rs : List ℕ) → n ≤ length ds → n ≤ length rs → definitions_fault w old new n ds rs ≡ pairs_fault w old new (take n ds) (take n rs)
unfolding definitions_fault
long_fault w old new n ds rs a b = rw (le-leb n (length ds) a, le-leb n (length rs) b)

pub short_fault : (w : ℕ) (old new : List ℕ) (n : ℕ) (ds rs : List ℕ) → length ds < n → definitions_fault w old new n ds rs ≡ 3
unfolding definitions_fault
short_fault w old new n ds rs a = rw (lt-leb n (length ds) a)

-- ---- one definition, and no row
no_row : (wires : ℕ) (old new hs : List ℕ) → (rows_fault wires old new 3 0 hs ≡ 0) × (rows_fault wires old new 4 0 hs ≡ 0) × (rows_fault wires old new 6 0 hs ≡ 0) × (rows_fault wires old new 1 0 hs ≡ 0)
unfolding rows_fault
no_row wires old new hs = let e : leb 0 (length hs) ≡ true = le-leb 0 (length hs) (omega arith) in (rw e, rw e, rw e, rw e)

abbrev pub one : ℕ → Sizes
one wires = record { wires = wires; ands = 0; imuls = 0; bmuls = 0; zeros = 0; linears = 1 }

pub one_placed : (wires : ℕ) (old new ands imuls bmuls zeros : List ℕ) (d h : ℕ)
    → places_fault (one wires) (stores old new ands imuls bmuls zeros (d ∷ []) (h ∷ [])) ≡ pairs_fault wires old new (d ∷ []) (h ∷ [])
unfolding places_fault definitions_fault
one_placed wires old new ands imuls bmuls zeros d h =
    rw ((no_row wires old new ands).0, (no_row wires old new imuls).1, (no_row wires old new bmuls).2, (no_row wires old new zeros).3)

-- ---- definitions, one after the other
module _ (w : ℕ) (old new : List ℕ) where
  abbrev pub faults : List Definition → ℕ
  faults ys = pairs_fault w old new (dsts_of ys) (rhss_of ys)

  faults_step : (ys : List Definition) (i : ℕ) → i < length ys → faults (drop i ys) ≡ or_else (faults (get_or ys i none ∷ [])) (faults (drop (i + 1) ys))
  faults_step ys i h = rw (drop_step ys i none h) (ap (λ (n : ℕ). or_else n (faults (drop (i + 1) ys))) (sym (else_zero _)))

  -- r is what is found of the i-th, and all is what is found of the i-th and those after it
  module _ (ys : List Definition) (i all r : ℕ) (h : i < length ys) (e : r ≡ faults (get_or ys i none ∷ [])) (k : all ≡ faults (drop i ys)) where
    pub fault_here : (r ≡ 0 → ⊥) → r ≡ all
    fault_here z = sym (k ∙ faults_step ys i h ∙ rw (← e) (else_some r _ z))

    pub fault_after : r ≡ 0 → all ≡ faults (drop (i + 1) ys)
    fault_after z = k ∙ faults_step ys i h ∙ rw (← e) (else_none r _ z)

-- ---- too many definitions, all there
pub full_over : (limit : ℕ) (z : Sizes) (terms : ℕ) → 1024 < z.linears → full_fault limit z terms ≡ 6
unfolding full_fault
full_over limit z terms h = else_six (ltb 0 z.wires) _ (else_six (leb z.wires 4096) _ (rw (lt-leb z.linears 1024 h)))
  where
    else_six : (b : Bool) (n : ℕ) → n ≡ 6 → or_else (unless b 6) n ≡ 6
    else_six true n h = h
    else_six false n h = refl

module _ (z : Sizes) (len : ℕ) where
  pub few_calm : z.linears ≤ 1024 → crowded z len ≡ false
  few_calm h = rw (le-ltb 1024 z.linears h)

  pub short_calm : 1024 < z.linears → len < z.linears → crowded z len ≡ false
  short_calm h k = rw (lt-ltb 1024 z.linears h, lt-leb z.linears len k)

  pub many_crowded : 1024 < z.linears → z.linears ≤ len → crowded z len ≡ true
  many_crowded h k = rw (lt-ltb 1024 z.linears h, le-leb z.linears len k)

  -- where there are not too many, all that count are held, or too few are there
  pub calm_or_short : crowded z len ≡ false → (len < z.linears) ⊎ (z.linears ≤ min len 1024)
  calm_or_short e =
      ⊎_elim (λ lack. inl lack) (λ enough. ⊎_elim (λ over. absurd (no (sym (many_crowded over enough) ∙ e))) (λ few. inr (omega arith)) (lt_or_le 1024 z.linears)) (lt_or_le len z.linears)
    where
      no : true ≡ false → ⊥
      no e = cc

  pub crowded_over : crowded z len ≡ true → (1024 < z.linears) × (z.linears ≤ len)
  crowded_over e =
      ⊎_elim (λ over. ⊎_elim (λ lack. absurd (no (sym (short_calm over lack) ∙ e))) (λ all. (over, all)) (lt_or_le len z.linears)) (λ few. absurd (no (sym (few_calm few) ∙ e))) (lt_or_le 1024 z.linears)
    where
      no : false ≡ true → ⊥
      no e = cc

module _ (z : Sizes) (s : Stores) where
  pub calm_none : crowded z (length s.dsts) ≡ false → crowd_fault z s ≡ 0
  unfolding crowd_fault
  calm_none e = rw e

  pub crowd_some : crowded z (length s.dsts) ≡ true → crowd_fault z s ≡ or_else (places_fault z s) 6
  unfolding crowd_fault
  crowd_some e = rw e

  by_case : (b : Bool) → b ≡ crowded z (length s.dsts) → (crowded z (length s.dsts) ≡ true) ⊎ (crowded z (length s.dsts) ≡ false)
  by_case true e = inl (sym e)
  by_case false e = inr (sym e)

  case : (crowded z (length s.dsts) ≡ true) ⊎ (crowded z (length s.dsts) ≡ false)
  case = by_case (crowded z (length s.dsts)) refl

  pub none_calm : crowd_fault z s ≡ 0 → crowded z (length s.dsts) ≡ false
  none_calm e = ⊎_elim (λ t. absurd (else_not (places_fault z s) 6 (λ x. omega (arith, x)) (sym (crowd_some t) ∙ e))) (λ f. f) case

  pub some_crowded : (crowd_fault z s ≡ 0 → ⊥) → crowded z (length s.dsts) ≡ true
  some_crowded h = ⊎_elim (λ t. t) (λ f. absurd (h (calm_none f))) case

  -- nothing comes before the fault of a crowd
  pub crowd_first : (limit c : ℕ) → (crowd_fault z s ≡ 0 → ⊥) → or_else (memory_fault limit z s) c ≡ crowd_fault z s
  unfolding memory_fault
  crowd_first limit c h =
      let t = some_crowded h in
      let x : or_else (places_fault z s) (full_fault limit z (terms_in z s)) ≡ crowd_fault z s =
      ap (or_else (places_fault z s)) (full_over limit z (terms_in z s) (crowded_over z (length s.dsts) t).0) ∙ sym (crowd_some t) in
      else_some (or_else (places_fault z s) (full_fault limit z (terms_in z s))) c (λ o. h (sym x ∙ o)) ∙ x

-- ---- the checks, one after the other
module _ (z : Sizes) (old new ands imuls bmuls zeros ds rs : List ℕ) (same : length rs ≡ length ds) (over : 1024 < z.linears) (there : z.linears ≤ length ds) where
  abbrev S : Stores
  S = stores old new ands imuls bmuls zeros ds rs

  abbrev found : ℕ
  found = pairs_fault z.wires old new (take z.linears ds) (take z.linears rs)

  crowd_is : crowd_fault z S ≡ or_else (or_else (places_fault (rows_only z) S) found) 6
  crowd_is =
      crowd_some z S (many_crowded z (length ds) over there)
      ∙ ap (λ (n : ℕ). or_else n 6) (rows_first z old new ands imuls bmuls zeros ds rs ds rs ∙ ap (or_else (places_fault (rows_only z) S)) (long_fault z.wires old new z.linears ds rs there (omega arith)))

  pub crowd_rows : (r : ℕ) → r ≡ places_fault (rows_only z) S → (r ≡ 0 → ⊥) → r ≡ crowd_fault z S
  crowd_rows r e h = sym (crowd_is ∙ rw (← e) (else_assoc r found 6 ∙ else_some r _ h))

  module _ (p : 0 ≡ places_fault (rows_only z) S) where
    pub crowd_definitions : (r : ℕ) → r ≡ found → (r ≡ 0 → ⊥) → r ≡ crowd_fault z S
    crowd_definitions r e h = sym (crowd_is ∙ rw (← p, ← e) (else_some r 6 h))

    pub crowd_full : 0 ≡ found → 6 ≡ crowd_fault z S
    crowd_full e = sym (crowd_is ∙ rw (← p, ← e))

-- ---- what is found of the first n
abbrev dst_of : Definition → ℕ
dst_of d = d.dst

abbrev rhs_of : Definition → ℕ
rhs_of d = d.rhs

pub front_faults : (w : ℕ) (old new : List ℕ) (ys : List Definition) (n : ℕ) → faults w old new (take n ys) ≡ pairs_fault w old new (take n (dsts_of ys)) (take n (rhss_of ys))
front_faults w old new ys n = ap₂ {C = ℕ} (pairs_fault w old new) (sym (take-map dst_of n ys)) (sym (take-map rhs_of n ys))
