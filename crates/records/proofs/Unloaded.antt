-- The numbers of the first records stand in front of the arrays, and are put back from there. Assumes nothing.
use mathlib.Core.Path.{◌≡◌, sym, ap, ap₂, subst, ◌∙◌}
use Prim.Native.Nat.{ℕ, min, ◌≤◌}
use native.Mathlib.Omega.{arith}
use mathlib.Core.List.{List}
use lib.ListN.{length, take, replicate, length-map}
use lib.Seq.{length-sets}
use Rattle.std.proofs.lemmas.List.{length-replicate}
use Rattle.lower.specs.declared.Sizes.{Sizes}
use Rattle.lower.specs.Stores.{Stores, stores}
use Rattle.records.specs.Records.{dsts_of, rhss_of, unloaded, numbers_of}
use Rattle.records.specs.declared.Definition.{Definition}
use Rattle.records.specs.declared.Numbers.{Numbers}
use Rattle.records.proofs.Parts.{front_some}

pub blank_length : (l : List ℕ) (k : ℕ) → length (unloaded (replicate 1024 0) l k) ≡ 1024
blank_length l k = length-sets (replicate 1024 0) 0 (take k l) ∙ length-replicate {A = ℕ} 1024 0

module _ (ys : List Definition) where
  abbrev blank : List ℕ
  blank = replicate 1024 0

  in_array : min (length ys) 1024 ≤ length blank
  in_array = omega (arith, length-replicate {A = ℕ} 1024 0)

  dsts_front : take (numbers_of ys).len (numbers_of ys).dsts ≡ take (min (length ys) 1024) (dsts_of ys)
  unfolding numbers_of
  dsts_front = front_some blank (dsts_of ys) (min (length ys) 1024) (omega (arith, length-map ys (λ (d : Definition). d.dst))) in_array

  rhss_front : take (numbers_of ys).len (numbers_of ys).rhss ≡ take (min (length ys) 1024) (rhss_of ys)
  unfolding numbers_of
  rhss_front = front_some blank (rhss_of ys) (min (length ys) 1024) (omega (arith, length-map ys (λ (d : Definition). d.rhs))) in_array

  len-of : (numbers_of ys).len ≡ min (length ys) 1024
  unfolding numbers_of
  len-of = omega arith

  module _ (n : Numbers) (e : n ≡ numbers_of ys) where
    pub len_is : n.len ≡ min (length ys) 1024
    len_is = ap (λ (x : Numbers). x.len) e ∙ len-of

    pub front_dsts : take n.len n.dsts ≡ take n.len (dsts_of ys)
    front_dsts = ap (λ (x : Numbers). take x.len x.dsts) e ∙ dsts_front ∙ ap (λ (i : ℕ). take i (dsts_of ys)) (sym len_is)

    pub front_rhss : take n.len n.rhss ≡ take n.len (rhss_of ys)
    front_rhss = ap (λ (x : Numbers). take x.len x.rhss) e ∙ rhss_front ∙ ap (λ (i : ℕ). take i (rhss_of ys)) (sym len_is)

    -- the system over these numbers is the one over the first numbers of the records
    pub taken : (old new ands imuls bmuls zeros : List ℕ) → stores old new ands imuls bmuls zeros (take n.len n.dsts) (take n.len n.rhss) ≡ stores old new ands imuls bmuls zeros (take n.len (dsts_of ys)) (take n.len (rhss_of ys))
    taken old new ands imuls bmuls zeros = ap₂ {C = Stores} (stores old new ands imuls bmuls zeros) front_dsts front_rhss

pub moved : (P : Sizes → Stores → Type 0) (z z' : Sizes) (s s' : Stores) → z' ≡ z → s' ≡ s → P z' s' → P z s
moved P z z' s s' p q y = subst (λ (k : Sizes). P k s) p (subst (P z') q y)
