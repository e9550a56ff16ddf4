-- Sets of variants as numbers of eight bits: what is in a union, and in a set of one. Assumes nothing.
use mathlib.Core.Path.{◌≡◌, refl}
use Prim.Native.Nat.{ℕ, ◌/◌, ◌%◌, ◌^◌}
use native.Mathlib.Omega.{arith}
use mathlib.Core.Bool.{Bool, true, false, not, ◌||◌}
use lib.Dec.{T, eqb}
use lib.Bits.{bit_or, or_step, or_shr, or_comm}
use borrow.Author.Tests.{eq-eqb}
use Rattle.shift.specs.declared.ShiftVariant.{ShiftVariant}
use Rattle.shift.specs.declared.ShiftVariant.TheVariants.{Sll, Slr, Sar, Rotr, Sll32, Srl32, Sra32, Rotr32}
use Rattle.shift.specs.Shifts.{variant_number}
use Rattle.shift.specs.Compose.{same}
use Rattle.shift.proofs.Variants.{one_variant}
use Rattle.commit_set.specs.Runs.{bit_of}

-- the variant v is in the set m
unfoldable pub Has : ShiftVariant → ℕ → Type 0
Has v m = m / 2 ^ variant_number v % 2 ≡ 1

low_or : (a b : ℕ) → a % 2 ≡ 1 → bit_or a b % 2 ≡ 1
low_or a b h = omega (arith, or_step a b)

pub has_left : (v : ShiftVariant) (a b : ℕ) → Has v a → Has v (bit_or a b)
unfolding Has
has_left v a b h = rw (or_shr a b (variant_number v)) (low_or (a / 2 ^ variant_number v) (b / 2 ^ variant_number v) h)

pub has_right : (v : ShiftVariant) (a b : ℕ) → Has v b → Has v (bit_or a b)
has_right v a b h = rw (or_comm a b) (has_left v b a h)

-- a statement at every variant
abbrev pub Each : (ShiftVariant → Type 0) → Type 0
Each P = P Sll × P Slr × P Sar × P Rotr × P Sll32 × P Srl32 × P Sra32 × P Rotr32

pub at_each : (P : ShiftVariant → Type 0) → Each P → (v : ShiftVariant) → P v
at_each P h Sll = h.0
at_each P h Slr = h.1
at_each P h Sar = h.2
at_each P h Rotr = h.3
at_each P h Sll32 = h.4
at_each P h Srl32 = h.5
at_each P h Sra32 = h.6
at_each P h Rotr32 = h.7

-- what is in a set of one is that one: one test over all pairs
abbrev Told : ShiftVariant → ShiftVariant → Type 0
Told v w = T (not (eqb (bit_of w / 2 ^ variant_number v % 2) 1) || same v w)

told : (v w : ShiftVariant) → Told v w
told v w =
    at_each (λ w. Told v w)
    (at_each (λ v. Each (λ w. Told v w)) (omega arith, omega arith, omega arith, omega arith, omega arith, omega arith, omega arith, omega arith) v) w

pub has_only : (v w : ShiftVariant) → Has v (bit_of w) → v ≡ w
unfolding Has
has_only v w h = go (eqb (bit_of w / 2 ^ variant_number v % 2) 1) (eq-eqb (bit_of w / 2 ^ variant_number v % 2) 1 h) (same v w) refl (told v w)
  where
    go : (a : Bool) → a ≡ true → (b : Bool) → same v w ≡ b → T (not a || b) → v ≡ w
    go true p true q t = one_variant v w q
    go true p false q t = absurd t
    go false p b q t = let z : ◌≡◌ {A = ℕ} 0 1 = cc in absurd (omega arith)

pub only_has : (v : ShiftVariant) → Has v (bit_of v)
unfolding Has
only_has = at_each (λ v. Has v (bit_of v)) (refl, refl, refl, refl, refl, refl, refl, refl)
