-- Joining one context after the other, from the first, is joining them all. Assumes nothing.
use mathlib.Core.Path.{◌≡◌, refl, sym, ap, ap₂, ◌∙◌}
use Prim.Native.Nat.{ℕ, ◌+◌, ◌*◌, ◌/◌, ◌%◌, max}
use mathlib.Core.List.{List, [], ◌∷◌}
use native.Mathlib.Omega.{arith}
use lib.Arith.{bin_ind}
use lib.Bits.{bit_or, or_step, or_zero_r}
use Rattle.commit_set.specs.declared.Run.{Run}
use Rattle.commit_set.specs.declared.CommitSetCx.{CommitSetCx}
use Rattle.commit_set.specs.Runs.{runs, join_run, context, join, join_all, no_context}

-- halves and low digit of a union
or_half : (a b : ℕ) → bit_or a b / 2 ≡ bit_or (a / 2) (b / 2)
or_half a b = omega (arith, or_step a b)

or_low : (a b : ℕ) → bit_or a b % 2 ≡ max (a % 2) (b % 2)
or_low a b = omega (arith, or_step a b)

max_assoc : (a b c : ℕ) → max (max a b) c ≡ max a (max b c)
max_assoc a b c = omega arith

pub or_assoc : (a b c : ℕ) → bit_or (bit_or a b) c ≡ bit_or a (bit_or b c)
or_assoc =
    bin_ind (λ (n : ℕ). (b c : ℕ) → bit_or (bit_or n b) c ≡ bit_or n (bit_or b c)) (λ b c. refl)
    (λ n ih b c.
    or_step (bit_or n b) c
    ∙ ap₂ (λ (x y : ℕ). x * 2 + y)
    (ap (λ (x : ℕ). bit_or x (c / 2)) (or_half n b) ∙ ih (b / 2) (c / 2) ∙ ap (bit_or (n / 2)) (sym (or_half b c)))
    (ap (λ (x : ℕ). max x (c % 2)) (or_low n b) ∙ max_assoc (n % 2) (b % 2) (c % 2) ∙ ap (max (n % 2)) (sym (or_low b c)))
    ∙ sym (or_step n (bit_or b c)))

run_assoc : (a b c : Run) → join_run (join_run a b) c ≡ join_run a (join_run b c)
run_assoc a b c = cc (or_assoc a.variants b.variants c.variants, max_assoc a.total b.total c.total)

pub join_assoc : (a b c : CommitSetCx) → join (join a b) c ≡ join a (join b c)
join_assoc a b c =
    cc (
      run_assoc a.shifts.first b.shifts.first c.shifts.first,
      run_assoc a.shifts.second b.shifts.second c.shifts.second,
      max_assoc a.shifts.len b.shifts.len c.shifts.len,
      max_assoc a.depth b.depth c.depth,
    )

max-zero : (a : ℕ) → max a 0 ≡ a
max-zero a = omega arith

run_none : (a : Run) → join_run a (record { variants = 0; total = 0 }) ≡ a
run_none a = ap₂ (λ (x y : ℕ). record { variants = x; total = y }) (or_zero_r a.variants) (max-zero a.total)

parts_same : {f f' g g' : Run} {l l' d d' : ℕ} → f ≡ f' → g ≡ g' → l ≡ l' → d ≡ d' → context (runs l f g) d ≡ context (runs l' f' g') d'
parts_same a b c e = rw (a, b, c, e)

pub join-none : (a : CommitSetCx) → join a no_context ≡ a
join-none a = parts_same (run_none a.shifts.first) (run_none a.shifts.second) (max-zero a.shifts.len) (max-zero a.depth)

zero-max : (a : ℕ) → max 0 a ≡ a
zero-max a = omega arith

none_run : (a : Run) → join_run (record { variants = 0; total = 0 }) a ≡ a
none_run a = ap (λ (y : ℕ). record { variants = a.variants; total = y }) (zero-max a.total)

pub none-join : (a : CommitSetCx) → join no_context a ≡ a
none-join a = parts_same (none_run a.shifts.first) (none_run a.shifts.second) (zero-max a.shifts.len) (zero-max a.depth)

-- one more context, of those that are left
pub join_step : (a c : CommitSetCx) {cs rest : List CommitSetCx} → cs ≡ c ∷ rest → join a (join_all cs) ≡ join (join a c) (join_all rest)
unfolding join_all
join_step a c {rest = rest} e = rw e (sym (join_assoc a c (join_all rest)))

pub join_end : (a : CommitSetCx) {cs : List CommitSetCx} → cs ≡ [] → join a (join_all cs) ≡ a
unfolding join_all
join_end a e = rw e (join-none a)
