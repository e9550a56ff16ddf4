-- What the evaluator writes, and what filling back leaves, add under xor of assignments. Assumes nothing.
use mathlib.Core.Path.{◌≡◌, refl, sym, ap, ap₂, ◌∙◌, subst, fun_ext}
use Prim.Native.Nat.{ℕ, zero, suc}
use native.Mathlib.Omega.{arith}
use mathlib.Core.Bool.{Bool, true, false, ◌&&◌}
use mathlib.Core.List.{List, [], ◌∷◌, map}
use lib.Bits.{bit_xor}
use lib.Dec.{eqb}
use lib.ListN.{length}
use borrow.Author.Tests.{eqb-true, eq-eqb}
use Rattle.operand.specs.Numbers.{Operand}
use Rattle.lower.specs.declared.Sizes.{Sizes}
use Rattle.lower.specs.Lists.{All}
use Rattle.lower.specs.Model.{System, operands_of}
use Rattle.lower.specs.Values.{value, word_of}
use Rattle.lower.specs.Accepted.{Accepted}
use Rattle.lower.specs.Stores.{Stores, system_of}
use Rattle.lower.proofs.Explains.{accepted}
use Rattle.evaluate.specs.Evaluation.{values_of}
use Rattle.patch.proofs.Parts.{clash}
use Rattle.undo.specs.FillBack.{IsWord}
use Rattle.undo.proofs.Listed.{words_of, one_list, filled_words}
use Rattle.undo.proofs.Adds.{value_adds}
use Rattle.fill_back.specs.Filling as B
use Rattle.fill_back.specs.Filling.{flagged, lengths_right, FillsIs}
use Rattle.demand.specs.Xored.{xored}
use Rattle.demand.proofs.Theorem.{Filled, fills_back}

xored-length : (ws vs : List ℕ) → length ws ≡ length vs → length (xored ws vs) ≡ length ws
unfolding xored
xored-length [] vs e = refl
xored-length (w ∷ ws) [] e = absurd (omega arith)
xored-length (w ∷ ws) (v ∷ vs) e = ap suc (xored-length ws vs (omega arith))

-- the list read as an assignment has the xor of both words at each wire
xored_at : (ws vs : List ℕ) → length ws ≡ length vs → (i : ℕ) → word_of (xored ws vs) i ≡ bit_xor (word_of ws i) (word_of vs i)
unfolding xored
xored_at [] [] e i = refl
xored_at [] (v ∷ vs) e i = absurd (omega arith)
xored_at (w ∷ ws) [] e i = absurd (omega arith)
xored_at (w ∷ ws) (v ∷ vs) e zero = refl
xored_at (w ∷ ws) (v ∷ vs) e (suc i) = xored_at ws vs (omega arith) i

-- two assignments of words
module _ (ws vs : List ℕ) (long : length ws ≡ length vs) (a : All IsWord ws) (b : All IsWord vs) where
  -- L3, of the words of a lent assignment
  pub values_add : (o : Operand) → value (word_of (xored ws vs)) o ≡ bit_xor (value (word_of ws) o) (value (word_of vs) o)
  values_add o = ap (λ (f : ℕ → ℕ). value f o) (fun_ext (λ i. xored_at ws vs long i)) ∙ value_adds (word_of ws) (word_of vs) (words_of a) (words_of b) o

  values-each : (os : List Operand) → map (value (word_of (xored ws vs))) os ≡ xored (map (value (word_of ws)) os) (map (value (word_of vs)) os)
  unfolding xored
  values-each [] = refl
  values-each (o ∷ os) = ap₂ {C = List ℕ} ◌∷◌ (values_add o) (values-each os)

  -- and of all that the evaluator writes
  pub evaluation_adds : (p : System) → values_of p (word_of (xored ws vs)) ≡ xored (values_of p (word_of ws)) (values_of p (word_of vs))
  unfolding values_of
  evaluation_adds p = values-each (operands_of p)

sized_flags : (z : Sizes) (flags ws : List ℕ) → lengths_right z flags ws ≡ true → length flags ≡ z.wires
unfolding lengths_right
sized_flags z flags ws h = eqb-true (length flags) z.wires (go (eqb (length flags) z.wires) (eqb (length ws) z.wires) h)
  where
    go : (x y : Bool) → (x && y) ≡ true → x ≡ true
    go true y e = refl
    go false y e = e

sized_words : (z : Sizes) (flags ws : List ℕ) → lengths_right z flags ws ≡ true → length ws ≡ z.wires
unfolding lengths_right
sized_words z flags ws h = eqb-true (length ws) z.wires (go (eqb (length flags) z.wires) (eqb (length ws) z.wires) h)
  where
    go : (x y : Bool) → (x && y) ≡ true → y ≡ true
    go true y e = e
    go false y e = absurd (clash e refl)

module _ (z : Sizes) (s : Stores) (flags : List ℕ) where
  abbrev p : System
  p = system_of z s

  wires_are : p.wires ≡ z.wires
  unfolding system_of
  wires_are = refl

  left_words : (ws ws' : List ℕ) → All IsWord ws → Filled z s flags ws ws' → All IsWord ws'
  left_words ws ws' a f =
      let acc : Accepted p = accepted z s f.no_fault f.no_circle in
      let n : length ws ≡ p.wires = sized_words z flags ws f.sized ∙ sym wires_are in
      subst (All IsWord) (sym (one_list p (flagged flags) acc ws ws' n (f.as_long ∙ n) f.back)) (filled_words p (flagged flags) acc ws a)

  module _ (ws ws' vs vs' : List ℕ) (a : All IsWord ws) (b : All IsWord vs) where
    both : Filled z s flags ws ws' → Filled z s flags vs vs' → FillsIs z s flags (xored ws vs) (xored ws' vs') 0
    unfolding lengths_right
    both f g =
        let m : length ws ≡ z.wires = sized_words z flags ws f.sized in
        let n : length vs ≡ z.wires = sized_words z flags vs g.sized in
        let long : length ws ≡ length vs = m ∙ sym n in
        let long' : length ws' ≡ length vs' = f.as_long ∙ long ∙ sym g.as_long in
        let long'' : length (xored ws vs) ≡ z.wires = xored-length ws vs long ∙ m in
        B.filled f.no_fault f.no_circle
        (rw (eq-eqb (length flags) z.wires (sized_flags z flags ws f.sized), eq-eqb (length (xored ws vs)) z.wires long''))
        (xored-length ws' vs' long' ∙ f.as_long ∙ sym (xored-length ws vs long))
        (record {
          others = λ i e. xored_at ws' vs' long' i ∙ ap₂ bit_xor (f.back.others i e) (g.back.others i e) ∙ sym (xored_at ws vs long i);
          filled = λ i rhs e.
              xored_at ws' vs' long' i ∙ ap₂ bit_xor (f.back.filled i rhs e) (g.back.filled i rhs e)
              ∙ sym (values_add ws' vs' long' (left_words ws ws' a f) (left_words vs vs' b g) rhs);
        })

    -- filling back the xor of two assignments leaves the xor of what it leaves of each
    pub filling_adds : FillsIs z s flags ws ws' 0 → FillsIs z s flags vs vs' 0 → FillsIs z s flags (xored ws vs) (xored ws' vs') 0
    filling_adds f g = both (fills_back z s flags ws ws' 0 f refl) (fills_back z s flags vs vs' 0 g refl)
