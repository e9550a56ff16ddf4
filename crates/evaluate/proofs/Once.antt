-- An evaluation that is done has put the values of all operands at the front; the contract of `evaluate` has one answer. Assumes nothing.
use mathlib.Core.Path.{◌≡◌, sym, ap, ◌∙◌}
use mathlib.Core.List.{List, [], ◌∷◌, ◌++◌}
use Prim.Native.Nat.{ℕ, ◌+◌, ◌≤◌}
use native.Mathlib.Nat.{zero-add}
use native.Mathlib.Omega.{arith}
use lib.ListN.{length, take, drop, length-map}
use lib.Seq.{sets, sets-eq, take_at, drop_at}
use Rattle.std.specs.Prelude.{Result, Ok, Err}
use Rattle.refusal.specs.declared.Refusal.{Refusal}
use Rattle.refusal.specs.Refusals.{number_of}
use Rattle.word.specs.Answers.{given}
use Rattle.lower.specs.declared.Sizes.{Sizes}
use Rattle.lower.specs.Model.{System, operands_of}
use Rattle.lower.specs.Stores.{Stores, system_of}
use Rattle.lower.specs.Values.{value, word_of}
use Rattle.lower.proofs.Refusals.{number_once}
use Rattle.evaluate.specs.Evaluation.{values_of, evaluation_fault, values_by, told_evaluated, numbered_by, EvaluateIs}
use Rattle.evaluate.proofs.Answering.{none_room}

values_count : (p : System) (w : ℕ → ℕ) → length (values_of p w) ≡ length (operands_of p)
unfolding values_of
values_count p w = length-map (operands_of p) (value w)

pub record IsEvaluated (z : Sizes) (s : Stores) (ws out : List ℕ) (n : ℕ) (out' : List ℕ) : Type 0 where
  pub no_fault : evaluation_fault z s (length ws) (length out) ≡ 0
  pub count_is : n ≡ length (operands_of (system_of z s))
  pub values_are : take n out' ≡ values_of (system_of z s) (word_of ws)
  pub rest_is : drop n out' ≡ drop n out

module _ {z : Sizes} {s : Stores} {ws out out' : List ℕ} {n : ℕ} where
  pub is_evaluated : EvaluateIs z s ws out (Ok n) out' → IsEvaluated z s ws out n out'
  unfolding values_by numbered_by
  is_evaluated y =
      let p = system_of z s in
      let vs = values_of p (word_of ws) in
      let f : evaluation_fault z s (length ws) (length out) ≡ 0 = sym y.answer in
      let m : n ≡ length (operands_of p) = one (rw f at y.tells) in
      let c = values_count p (word_of ws) in
      let l : n ≡ length vs = m ∙ sym c in
      let fits : 0 + length vs ≤ length out = omega (arith, none_room z s (length ws) (length out) f, c) in
      let e : out' ≡ vs ++ drop (length vs) out =
      y.filled ∙ ap (λ (f : ℕ). sets out 0 (values_by f vs)) f ∙ sets-eq vs out 0 fits ∙ ap (λ (k : ℕ). vs ++ drop k out) (zero-add (length vs)) in
      record {
        no_fault = f;
        count_is = m;
        values_are = ap (take n) e ∙ take_at vs (drop (length vs) out) n (sym l);
        rest_is = ap (drop n) e ∙ drop_at vs (drop (length vs) out) n (sym l) ∙ ap (λ (k : ℕ). drop k out) (sym l);
      }
    where
      one : {a b : ℕ} → given (a ∷ []) ≡ given (b ∷ []) → a ≡ b
      one e = cc

-- no second answer satisfies the contract
told_once : (r r₂ : Result ℕ Refusal) → told_evaluated r ≡ told_evaluated r₂ → r ≡ r₂
told_once (Ok a) (Ok b) e = let h : a ≡ b = cc in ap Ok h
told_once (Ok a) (Err q) e = absurd (let h : ◌≡◌ {A = ℕ} 0 1 = cc in omega arith)
told_once (Err r) (Ok b) e = absurd (let h : ◌≡◌ {A = ℕ} 0 1 = cc in omega arith)
told_once (Err r) (Err q) e = let h : number_of r ≡ number_of q = cc in ap Err (number_once r q h)

pub evaluate_once : (z : Sizes) (s : Stores) (ws out : List ℕ) (r r₂ : Result ℕ Refusal) (o o₂ : List ℕ) → EvaluateIs z s ws out r o → EvaluateIs z s ws out r₂ o₂ → (r ≡ r₂) × (o ≡ o₂)
evaluate_once z s ws out r r₂ o o₂ x y = (told_once r r₂ (x.tells ∙ sym y.tells), x.filled ∙ sym y.filled)
