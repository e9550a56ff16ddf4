-- The first numbers of a longer slice are the records' numbers, and records made of numbers have those. Assumes nothing.
use mathlib.Core.Path.{◌≡◌, refl, sym, ap, ◌∙◌}
use Prim.Native.Nat.{ℕ, zero, suc, ◌+◌, ◌≤◌}
use mathlib.Core.List.{List, [], ◌∷◌, ◌++◌, map}
use native.Mathlib.Omega.{arith}
use lib.ListN.{length, take, drop, set, length-map}
use lib.Seq.{sets, sets-eq, take_all, take-take, take-append_seam, length-take-le}
use Rattle.records.specs.Records.{dsts_of, rhss_of, unloaded, made, reloaded}
use Rattle.records.specs.declared.Definition.{Definition}

-- as many right sides as destinations
pub same_length : (ys : List Definition) → length (rhss_of ys) ≡ length (dsts_of ys)
same_length ys = length-map ys (λ (d : Definition). d.rhs) ∙ sym (length-map ys (λ (d : Definition). d.dst))

-- all of ns stands in front
front_all : (l ns : List ℕ) (n : ℕ) → length ns ≡ n → n ≤ length l → take n (unloaded l ns n) ≡ ns
front_all l ns n e h =
    let k : take n ns ≡ ns = take_all n ns (omega (arith, e)) in
    ap (λ (vs : List ℕ). take n (sets l 0 vs)) k
    ∙ ap (take n) (sets-eq ns l 0 (omega (arith, e, h)))
    ∙ ap (λ (i : ℕ). take i (ns ++ drop (0 + length ns) l)) (sym e)
    ∙ take-append_seam ns (drop (0 + length ns) l)

-- the first of ns stand in front
pub front_some : (l ns : List ℕ) (n : ℕ) → n ≤ length ns → n ≤ length l → take n (unloaded l ns n) ≡ take n ns
front_some l ns n k h =
    ap (λ (vs : List ℕ). take n (sets l 0 vs)) (sym (take-take n n ns (omega arith))) ∙ front_all l (take n ns) n (length-take-le n ns k) h

-- ---- records made of numbers have those numbers
module _ (f : Definition → ℕ) where
  map-set : (l : List Definition) (i : ℕ) (d : Definition) → map f (set l i d) ≡ set (map f l) i (f d)
  map-set [] i d = refl
  map-set (x ∷ l) zero d = refl
  map-set (x ∷ l) (suc i) d = ap (λ (r : List ℕ). f x ∷ r) (map-set l i d)

  map-sets : (l : List Definition) (i : ℕ) (ds : List Definition) → map f (sets l i ds) ≡ sets (map f l) i (map f ds)
  map-sets l i [] = refl
  map-sets l i (d ∷ ds) = map-sets (set l i d) (suc i) ds ∙ ap (λ (r : List ℕ). sets r (suc i) (map f ds)) (map-set l i d)

made_dsts : (ds rs : List ℕ) → length ds ≤ length rs → dsts_of (made ds rs) ≡ ds
unfolding made
made_dsts [] rs h = refl
made_dsts (d ∷ ds) [] h = absurd (omega (arith, h))
made_dsts (d ∷ ds) (r ∷ rs) h = ap (λ (l : List ℕ). d ∷ l) (made_dsts ds rs (omega (arith, h)))

made_rhss : (ds rs : List ℕ) → length rs ≤ length ds → rhss_of (made ds rs) ≡ rs
unfolding made
made_rhss [] [] h = refl
made_rhss [] (r ∷ rs) h = absurd (omega (arith, h))
made_rhss (d ∷ ds) [] h = refl
made_rhss (d ∷ ds) (r ∷ rs) h = ap (λ (l : List ℕ). r ∷ l) (made_rhss ds rs (omega (arith, h)))

module _ (l : List Definition) (ds rs : List ℕ) (n : ℕ) (p : n ≤ length ds) (q : n ≤ length rs) where
  pub reloaded_dsts : dsts_of (reloaded l ds rs n) ≡ unloaded (dsts_of l) ds n
  reloaded_dsts =
      map-sets (λ (d : Definition). d.dst) l 0 (made (take n ds) (take n rs))
      ∙ ap (sets (dsts_of l) 0) (made_dsts (take n ds) (take n rs) (omega (arith, length-take-le n ds p, length-take-le n rs q)))

  pub reloaded_rhss : rhss_of (reloaded l ds rs n) ≡ unloaded (rhss_of l) rs n
  reloaded_rhss =
      map-sets (λ (d : Definition). d.rhs) l 0 (made (take n ds) (take n rs))
      ∙ ap (sets (rhss_of l) 0) (made_rhss (take n ds) (take n rs) (omega (arith, length-take-le n ds p, length-take-le n rs q)))

-- records are made of as many numbers of each kind
module _ (l l' : List Definition) (us vs : List ℕ) (same : length us ≡ length vs) (e : l' ≡ reloaded l us vs (length us)) where
  pub put_dsts : dsts_of l' ≡ sets (dsts_of l) 0 us
  put_dsts = ap dsts_of e ∙ reloaded_dsts l us vs (length us) (omega arith) (omega (arith, same)) ∙ ap (sets (dsts_of l) 0) (take_all (length us) us (omega arith))

  pub put_rhss : rhss_of l' ≡ sets (rhss_of l) 0 vs
  put_rhss = ap rhss_of e ∙ reloaded_rhss l us vs (length us) (omega arith) (omega (arith, same)) ∙ ap (sets (rhss_of l) 0) (take_all (length us) vs (omega (arith, same)))
