-- Filling back has one answer, and it has one for every input; flags of undefined wires change nothing. Assumes nothing.
use mathlib.Core.Path.{◌≡◌, refl, sym, ap, ◌∙◌}
use Prim.Native.Nat.{ℕ, zero, suc}
use native.Mathlib.Omega.{arith}
use mathlib.Core.Bool.{Bool, true, false, ◌&&◌}
use mathlib.Core.List.{List}
use mathlib.Core.Option.{Option}
use lib.Dec.{eqb}
use lib.ListN.{length}
use Rattle.operand.specs.Numbers.{Operand}
use Rattle.lower.specs.declared.Sizes.{Sizes}
use Rattle.lower.specs.Model.{System, defines}
use Rattle.lower.specs.Accepted.{Reaches, NoCircle}
use Rattle.lower.specs.Stores.{Stores, system_of}
use Rattle.lower.specs.Faults.{fault_of}
use Rattle.lower.proofs.Explains.{accepted}
use Rattle.patch.proofs.Parts.{Which, is_true, is_false, which, clash}
use Rattle.patch.proofs.Unique.{inlined_same}
use Rattle.undo.specs.FillBack.{FilledBack, filled_list}
use Rattle.undo.proofs.Listed.{one_list, filled-length, filled-back}
use Rattle.fill_back.specs.Filling.{flagged, lengths_right, FillsIs, refused, circular, sized, filled}
use Rattle.fill_back.proofs.Running.{lengths_both, walked_ends}

module _ (z : Sizes) (s : Stores) (flags ws : List ℕ) where
  abbrev p : System
  p = system_of z s

  -- a filling is the one that filling back gives
  filling_is : fault_of 8192 z s ≡ 0 → NoCircle p → lengths_right z flags ws ≡ true → (ws' : List ℕ) → length ws' ≡ length ws → FilledBack p (flagged flags) ws ws'
      → ws' ≡ filled_list p (flagged flags) ws
  unfolding system_of
  filling_is f n l ws' k b = let m = (lengths_both z flags ws l).1 in one_list p (flagged flags) (accepted z s f n) ws ws' m (k ∙ m) b

  -- THE THEOREM. No second answer, and nothing else left in the assignment.
  pub fills_once : (ws₁ ws₂ : List ℕ) (r₁ r₂ : ℕ) → FillsIs z s flags ws ws₁ r₁ → FillsIs z s flags ws ws₂ r₂ → (r₁ ≡ r₂) × (ws₁ ≡ ws₂)
  fills_once ws₁ ws₂ r₁ r₂ (refused e h k) (refused e' h' k') = (e ∙ sym e', k ∙ sym k')
  fills_once ws₁ ws₂ r₁ r₂ (refused e h k) (circular f w q k') = absurd (h (e ∙ f))
  fills_once ws₁ ws₂ r₁ r₂ (refused e h k) (sized f n l k') = absurd (h (e ∙ f))
  fills_once ws₁ ws₂ r₁ r₂ (refused e h k) (filled f n l m b) = absurd (h (e ∙ f))
  fills_once ws₁ ws₂ r₁ r₂ (circular f w q k) (refused e h k') = absurd (h (e ∙ f))
  fills_once ws₁ ws₂ r₁ r₂ (circular f w q k) (circular f' w' q' k') = (refl, k ∙ sym k')
  fills_once ws₁ ws₂ r₁ r₂ (circular f w q k) (sized f' n l k') = absurd (n w q)
  fills_once ws₁ ws₂ r₁ r₂ (circular f w q k) (filled f' n l m b) = absurd (n w q)
  fills_once ws₁ ws₂ r₁ r₂ (sized f n l k) (refused e h k') = absurd (h (e ∙ f))
  fills_once ws₁ ws₂ r₁ r₂ (sized f n l k) (circular f' w q k') = absurd (n w q)
  fills_once ws₁ ws₂ r₁ r₂ (sized f n l k) (sized f' n' l' k') = (refl, k ∙ sym k')
  fills_once ws₁ ws₂ r₁ r₂ (sized f n l k) (filled f' n' l' m b) = absurd (clash l' l)
  fills_once ws₁ ws₂ r₁ r₂ (filled f n l m b) (refused e h k') = absurd (h (e ∙ f))
  fills_once ws₁ ws₂ r₁ r₂ (filled f n l m b) (circular f' w q k') = absurd (n w q)
  fills_once ws₁ ws₂ r₁ r₂ (filled f n l m b) (sized f' n' l' k') = absurd (clash l l')
  fills_once ws₁ ws₂ r₁ r₂ (filled f n l m b) (filled f' n' l' m' b') = (refl, filling_is f n l ws₁ m b ∙ sym (filling_is f n l ws₂ m' b'))

  fills : fault_of 8192 z s ≡ 0 → NoCircle p → lengths_right z flags ws ≡ true → FillsIs z s flags ws (filled_list p (flagged flags) ws) 0
  unfolding system_of
  fills f n l =
      let m = (lengths_both z flags ws l).1 in let a = accepted z s f n in
      filled f n l (filled-length p (flagged flags) a ws ∙ sym m) (filled-back p (flagged flags) a ws m)

  -- an answer, and what is left in the assignment
  pub record Answered : Type 0 where
    pub left : List ℕ
    pub answer : ℕ
    pub answers : FillsIs z s flags ws left answer

  -- THE THEOREM. There is an answer.
  pub fills_exist : Answered
  fills_exist = go (fault_of 8192 z s) refl
    where
      filling : fault_of 8192 z s ≡ 0 → NoCircle p → Which (lengths_right z flags ws) → Answered
      filling f n (is_false l) = record { left = ws; answer = 13; answers = sized f n l refl }
      filling f n (is_true l) = record { left = filled_list p (flagged flags) ws; answer = 0; answers = fills f n l }

      walked : (f : fault_of 8192 z s ≡ 0) → Answered
      walked f = let e = walked_ends z s f in turn (which _) e.circle e.no_circle
        where
          turn : {b : Bool} → Which b → (b ≡ true → (x : ℕ) × Reaches p x x) → (b ≡ false → NoCircle p) → Answered
          turn (is_true k) c n = let x = c k in record { left = ws; answer = 11; answers = circular f x.0 x.1 refl }
          turn (is_false k) c n = filling f (n k) (which (lengths_right z flags ws))

      go : (r : ℕ) → fault_of 8192 z s ≡ r → Answered
      go zero f = walked f
      go (suc r) f = record { left = ws; answer = suc r; answers = refused (sym f) (λ k. omega (arith, k)) refl }

-- "on an undefined wire they change nothing"
module _ (z : Sizes) (s : Stores) (flags flags₂ ws ws' : List ℕ) (long : length flags ≡ length flags₂)
    (agree : (w : ℕ) → defines (system_of z s).linears w ≡ true → flagged flags w ≡ flagged flags₂ w) where
  back-same : FilledBack (system_of z s) (flagged flags) ws ws' → FilledBack (system_of z s) (flagged flags₂) ws ws'
  back-same b =
      let q = inlined_same (system_of z s) (flagged flags) (flagged flags₂) agree in
      record { others = λ i e. b.others i (ap (λ (f : ℕ → Option Operand). f i) q ∙ e); filled = λ i o e. b.filled i o (ap (λ (f : ℕ → Option Operand). f i) q ∙ e) }

  lengths_same : lengths_right z flags₂ ws ≡ lengths_right z flags ws
  unfolding lengths_right
  lengths_same = ap (λ (n : ℕ). eqb n z.wires && eqb (length ws) z.wires) (sym long)

  -- THE THEOREM
  pub flags_elsewhere : {r : ℕ} → FillsIs z s flags ws ws' r → FillsIs z s flags₂ ws ws' r
  flags_elsewhere (refused e h k) = refused e h k
  flags_elsewhere (circular f w q k) = circular f w q k
  flags_elsewhere (sized f n l k) = sized f n (lengths_same ∙ l) k
  flags_elsewhere (filled f n l m b) = filled f n (lengths_same ∙ l) m (back-same b)
