-- A text that is put stands at the front, and no second answer satisfies a contract. Assumes nothing.
use mathlib.Core.Path.{◌≡◌, refl, sym, ap, ◌∙◌}
use Prim.Native.Nat.{ℕ, ◌+◌, ◌≤◌}
use native.Mathlib.Nat.{zero-add}
use native.Mathlib.Omega.{arith}
use mathlib.Core.Bool.{Bool, true, false, cond}
use mathlib.Core.List.{List, ◌++◌}
use lib.Dec.{leb}
use lib.ListN.{length, take, drop}
use lib.Seq.{sets, sets-eq, take_at, drop_at, length-sets}
use borrow.Author.Tests.{leb-true}
use Rattle.std.specs.Prelude.{Result, Ok, Err}
use Rattle.refusal.specs.declared.Refusal.{Refusal}
use Rattle.refusal.specs.declared.Refusal.TheVariants.{Room}
use Rattle.text.specs.Text.{lines_text, Puts}
use Rattle.text.specs.Committed.{committed_from, Lines, many, few}

-- ---- a text that was put

module _ (text out : List ℕ) where
  whole : length text ≤ length out → sets out 0 text ≡ text ++ drop (length text) out
  whole h =
      let u : 0 + length text ≤ length out = omega (arith, h) in
      sets-eq text out 0 u ∙ ap (λ (k : ℕ). text ++ drop k out) (zero-add (length text))

  take_front : (n : ℕ) → length text ≡ n → n ≤ length out → take n (sets out 0 text) ≡ text
  take_front n e h = ap (take n) (whole (omega (arith, e, h))) ∙ take_at text (drop (length text) out) n e

  drop_front : (n : ℕ) → length text ≡ n → n ≤ length out → drop n (sets out 0 text) ≡ drop n out
  drop_front n e h = ap (drop n) (whole (omega (arith, e, h))) ∙ drop_at text (drop (length text) out) n e ∙ ap (λ (m : ℕ). drop m out) e

module _ {text out out' : List ℕ} where
  pub puts_front : {r : Result ℕ Refusal} (n : ℕ) → r ≡ Ok n → Puts text out r out' → (take n out' ≡ text) × (drop n out' ≡ drop n out) × (n ≤ length out')
  puts_front {r} n i a = go (leb (length text) (length out)) refl (sym i ∙ a.answer) a.bytes_are
    where
      go : (b : Bool) → leb (length text) (length out) ≡ b → Ok n ≡ cond b (Ok (length text)) (Err Room) → out' ≡ cond b (sets out 0 text) out
          → (take n out' ≡ text) × (drop n out' ≡ drop n out) × (n ≤ length out')
      go true e p q =
          let k : length text ≡ n = cc in
          let h : n ≤ length out = omega (arith, leb-true (length text) (length out) e) in (
            ap (take n) q ∙ take_front text out n k h,
            ap (drop n) q ∙ drop_front text out n k h,
            omega (arith, h, ap length q, length-sets out 0 text),
          )
      go false e p q = absurd (let x : ◌≡◌ {A = ℕ} 0 1 = cc in omega arith)

pub lines_front : {flags out out' : List ℕ} {r : Result ℕ Refusal} (n : ℕ) → r ≡ Ok n → Lines flags out r out' → (take n out' ≡ lines_text (committed_from 0 flags)) × (drop n out' ≡ drop n out) × (n ≤ length out')
lines_front n e (many h) = absurd (let x : ◌≡◌ {A = ℕ} 0 1 = cc in omega arith)
lines_front n e (few h a) = puts_front n e a

-- ---- one answer

pub puts_once : {text out : List ℕ} {r₁ r₂ : Result ℕ Refusal} {o₁ o₂ : List ℕ} → Puts text out r₁ o₁ → Puts text out r₂ o₂ → (r₁ ≡ r₂) × (o₁ ≡ o₂)
puts_once a b = (a.answer ∙ sym b.answer, a.bytes_are ∙ sym b.bytes_are)

pub lines_once : (flags out : List ℕ) (r₁ r₂ : Result ℕ Refusal) (o₁ o₂ : List ℕ) → Lines flags out r₁ o₁ → Lines flags out r₂ o₂ → (r₁ ≡ r₂) × (o₁ ≡ o₂)
lines_once flags out r₁ r₂ o₁ o₂ (many h) (many i) = (refl, refl)
lines_once flags out r₁ r₂ o₁ o₂ (many h) (few i b) = absurd (omega arith)
lines_once flags out r₁ r₂ o₁ o₂ (few h a) (many i) = absurd (omega arith)
lines_once flags out r₁ r₂ o₁ o₂ (few h a) (few i b) = puts_once a b
