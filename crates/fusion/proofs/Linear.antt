-- Definitions closed up, and the committed ones after them. Assumes nothing.
use mathlib.Core.Path.{◌≡◌, refl, sym, ap, ◌∙◌}
use Prim.Native.Nat.{ℕ, suc, ◌+◌, ◌≤◌, ◌<◌}
use native.Mathlib.Omega.{arith}
use mathlib.Core.Bool.{Bool, true, false, cond}
use mathlib.Core.List.{List, [], ◌∷◌, ◌++◌}
use lib.ListN.{length, take}
use lib.Seq.{sets, length-sets, length-take-le}
use Rattle.apply.specs.Applied.{is_stranded, keep_from, committed_wires}
use Rattle.apply.proofs.Closing.{sets_next}
use Rattle.fusion.specs.Steps.{Closable}

-- as many by number of one list as of another
keep_lengths : (q : ℕ → Bool) (i : ℕ) (a b : List ℕ) → length a ≡ length b → length (keep_from q i a) ≡ length (keep_from q i b)
unfolding keep_from
keep_lengths q i [] [] e = refl
keep_lengths q i [] (y ∷ b) e = absurd (omega arith)
keep_lengths q i (x ∷ a) [] e = absurd (omega arith)
keep_lengths q i (x ∷ a) (y ∷ b) e = go (q i) (keep_lengths q (suc i) a b (omega arith))
  where
    go : (t : Bool) → length (keep_from q (suc i) a) ≡ length (keep_from q (suc i) b)
        → length (cond t (x ∷ keep_from q (suc i) a) (keep_from q (suc i) a)) ≡ length (cond t (y ∷ keep_from q (suc i) b) (keep_from q (suc i) b))
    go true k = ap suc k
    go false k = k

module _ (dsts rhss : List ℕ) (n wires : ℕ) (decisions table reach list : List ℕ) (h : Closable dsts rhss n wires decisions table reach list) where
  abbrev left : List ℕ → List ℕ
  left l = keep_from (is_stranded decisions reach) 0 (take n l)

  abbrev added : List ℕ
  added = committed_wires table decisions 0 wires

  same_left : length (left dsts) ≡ length (left rhss)
  same_left =
      keep_lengths (is_stranded decisions reach) 0 (take n dsts) (take n rhss) (length-take-le n dsts h.dsts_there ∙ sym (length-take-le n rhss h.rhss_there))

  module _ (dsts' rhss' : List ℕ) (at : ℕ) (d : dsts' ≡ sets dsts 0 (left dsts)) (g : rhss' ≡ sets rhss 0 (left rhss)) (a : at ≡ length (left dsts)) where
    pub add_asks : (wires < 65536) × ((at + length added ≤ length dsts') × ((at + length added ≤ length rhss') × (length added ≤ length list)))
    add_asks = (
      h.wires_few,
      (
        omega (arith, a, h.left_few, h.dsts_there, ap length d, length-sets dsts 0 (left dsts)),
        (omega (arith, a, h.left_few, h.rhss_there, ap length g, length-sets rhss 0 (left rhss)), h.list_there),
      ),
    )

    pub dsts_closed : (x : List ℕ) → x ≡ sets dsts' at added → x ≡ sets dsts 0 (left dsts ++ added)
    dsts_closed x e = e ∙ ap (λ (y : List ℕ). sets y at added) d ∙ sets_next dsts 0 at (left dsts) added (omega (arith, a))

    pub rhss_closed : (x : List ℕ) → x ≡ sets rhss' at (take (length added) list) → x ≡ sets rhss 0 (left rhss ++ take (length added) list)
    rhss_closed x e = e ∙ ap (λ (y : List ℕ). sets y at (take (length added) list)) g ∙ sets_next rhss 0 at (left rhss) (take (length added) list) (omega (arith, a, same_left))
