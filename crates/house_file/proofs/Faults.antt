-- What the number of a refusal says: it is none of no fault, the first fault wins, and each refusal has its own. Assumes nothing.
use mathlib.Core.Path.{◌≡◌, refl, sym, ap, ◌∙◌}
use Prim.Native.Nat.{ℕ, ◌<◌}
use native.Mathlib.Omega.{arith}
use Rattle.std.specs.Prelude.{cond, eqb, Result, Ok, Err}
use Rattle.refusal.specs.declared.Refusal.{Refusal}
use Rattle.refusal.specs.declared.Refusal.TheVariants.{Cut, Tag, Shape, Shift, Wire, Full, Slots, Twice, Empty, Double, Circle, Room, Size, Wide}
use Rattle.refusal.specs.Refusals.{number_of}
use Rattle.lower.specs.Faults.{or_else}
use Rattle.lower.proofs.Firsts.{else_some}
use Rattle.house_file.specs.declared.FileRead.{FileRead}
use Rattle.house_file.specs.declared.FileFault.{FileFault}
use Rattle.house_file.specs.Reading.{Fault, fault, fault_of, by_number, placed}

pub number_above : (r : Refusal) → 0 < number_of r
number_above Cut = omega arith
number_above Tag = omega arith
number_above Shape = omega arith
number_above Shift = omega arith
number_above Wire = omega arith
number_above Full = omega arith
number_above Slots = omega arith
number_above Twice = omega arith
number_above Empty = omega arith
number_above Double = omega arith
number_above Circle = omega arith
number_above Room = omega arith
number_above Size = omega arith
number_above Wide = omega arith

-- a fault that is told is the first of it and what would come after it
pub first_told : (r : Refusal) {f : ℕ} (rest : ℕ) → number_of r ≡ f → number_of r ≡ or_else f rest
first_told r rest e = e ∙ sym (else_some _ rest (λ h. absurd (omega (arith, number_above r))))

abbrev refusal_at : ℕ → Refusal
refusal_at n =
    cond (eqb n 1) Cut (cond (eqb n 2) Tag (cond (eqb n 3) Shape (cond (eqb n 4) Shift (cond (eqb n 5) Wire (cond (eqb n 6) Full (cond (eqb n 7) Slots
    (cond (eqb n 8) Twice (cond (eqb n 9) Empty (cond (eqb n 10) Double (cond (eqb n 11) Circle (cond (eqb n 12) Room (cond (eqb n 13) Size Wide))))))))))))

number_back : (r : Refusal) → refusal_at (number_of r) ≡ r
number_back Cut = refl
number_back Tag = refl
number_back Shape = refl
number_back Shift = refl
number_back Wire = refl
number_back Full = refl
number_back Slots = refl
number_back Twice = refl
number_back Empty = refl
number_back Double = refl
number_back Circle = refl
number_back Room = refl
number_back Size = refl
number_back Wide = refl

-- no two refusals have one number
pub refusal_once : (r q : Refusal) → number_of r ≡ number_of q → r ≡ q
refusal_once r q e = sym (number_back r) ∙ ap refusal_at e ∙ number_back q

-- nor two answers, their faults told by number
pub answer_once : {A : Type 0} (r q : Result A FileFault) → by_number r ≡ by_number q → r ≡ q
answer_once (Ok a) (Ok b) e = cc
answer_once (Ok a) (Err f) e = cc
answer_once (Err f) (Ok b) e = cc
answer_once (Err f) (Err g) e =
    let h : fault_of f ≡ fault_of g = cc in
    let n = refusal_once f.refusal g.refusal (ap (λ (x : Fault). x.number) h) in
    let p : f.at ≡ g.at = ap (λ (x : Fault). x.at) h in
    ap Err (rw (n, p) refl)

-- what an answer told at its field says of the part's
pub placed_ok : {A : Type 0} (r : Result A Refusal) (at : ℕ) {a : A} → Ok a ≡ placed r at → r ≡ Ok a
placed_ok (Ok b) at e = cc
placed_ok (Err q) at e = cc

pub record IsPlaced {A : Type 0} (r : Result A Refusal) (at : ℕ) (f : FileFault) : Type 0 where
  pub refused : r ≡ Err f.refusal
  pub here : f.at ≡ at

pub placed_err : {A : Type 0} (r : Result A Refusal) (at : ℕ) {f : FileFault} → Err f ≡ placed r at → IsPlaced r at f
placed_err (Ok b) at e = cc
placed_err (Err q) at {f} e =
    let h : f ≡ record { refusal = q; at = at } = cc in
    record { refused = ap Err (sym (ap (λ (x : FileFault). x.refusal) h)); here = ap (λ (x : FileFault). x.at) h }

-- equal answers have equal parts
pub read_is : (a b : FileRead) → ◌≡◌ {A = Result FileRead Fault} (Ok a) (Ok b) → a ≡ b
read_is a b e = cc

pub fault_is : (a b : Fault) → ◌≡◌ {A = Result FileRead Fault} (Err a) (Err b) → a ≡ b
fault_is a b e = cc

pub numbers_are : (n m j k : ℕ) → ◌≡◌ {A = Result FileRead Fault} (Err (fault n j)) (Err (fault m k)) → (n ≡ m) × (j ≡ k)
numbers_are n m j k e =
    let h = fault_is (fault n j) (fault m k) e in
    (ap (λ (x : Fault). x.number) h, ap (λ (x : Fault). x.at) h)

pub by_number_ok : {A : Type 0} (r : Result A FileFault) (a : A) → by_number r ≡ Ok a → r ≡ Ok a
by_number_ok (Ok b) a e = cc
by_number_ok (Err f) a e = cc
