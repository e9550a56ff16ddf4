-- The answers that the replay takes together: compose of all pairs of valid shifts, push_inner of a spread of triples, apply of all valid
-- shifts to 300 words. Assumes nothing.
use Rattle.std.specs.Prelude.{ℕ, ◌+◌, ◌-◌, ◌*◌, ◌/◌, ◌%◌, cond, List, [], ◌∷◌, nat_lt, slice_index, Result, Ok, Err}
use Rattle.refusal.specs.declared.Refusal.{Refusal}
use Rattle.shift.specs.declared.Shift.{Shift}
use Rattle.shift.specs.declared.Composition.{Composition}
use Rattle.shift.specs.declared.Composition.TheVariants.{Single, Zero, Pair}
use Rattle.shift.specs.Shifts.{by, variant_at}
use Rattle.shift.specs.Answers.{found, composed, applied}
use Rattle.operand.specs.declared.PushInner.{PushInner}
use Rattle.operand.specs.declared.PushInner.TheVariants as P
use Rattle.operand.specs.Push.{pushed}
use Rattle.replay_shift.specs.declared.Words.{Words}
use Rattle.replay_shift.specs.declared.Tally.{Tally}
use Rattle.replay_shift.specs.Tallies.{over, churned, mixed, counted, shift_in, none}

abbrev pub of_composition : Tally → Composition → Tally
of_composition t (Single s) = shift_in (counted t 0) s
of_composition t Zero = counted t 1
of_composition t Pair = counted t 2

abbrev pub of_push : Tally → PushInner → Tally
of_push t (P.Seq a b) = shift_in (shift_in (counted t 0) a) b
of_push t P.Zero = counted t 1
of_push t P.OverBudget = counted t 2

abbrev of_composed : Tally → Result Composition Refusal → Tally
of_composed t (Ok c) = of_composition t c
of_composed t (Err _) = t

abbrev pub compose_at : Tally → Shift → Shift → Tally
compose_at t i o = of_composed t (composed i o)

-- the valid shifts by rising number: 64 of each full-width variant, then 32 of each half-word one
abbrev pub nth_valid : ℕ → Shift
nth_valid k = cond (nat_lt k 256) (by (variant_at (k / 64)) (k % 64)) (by (variant_at (k / 32 - 4)) (k % 32))

abbrev of_found : Tally → Result Shift Refusal → Tally
of_found t (Ok s) = shift_in (counted t 0) s
of_found t (Err _) = counted t 1

unfoldable pub index_at : ℕ → Tally → Tally
index_at n t = of_found t (found n)

unfoldable pub index_all : Tally
index_all = over index_at 1024 none

unfoldable pub compose_row : Shift → Tally → Tally
compose_row i t = over (λ k t. compose_at t i (nth_valid k)) 384 t

unfoldable pub compose_all : Tally
compose_all = over (λ k t. compose_row (nth_valid k) t) 384 none

abbrev of_pushed : Tally → Result PushInner Refusal → Tally
of_pushed t (Ok p) = of_push t p
of_pushed t (Err _) = t

unfoldable pub push_at : Shift → Shift → Shift → ℕ → Tally → Tally
push_at i o s slots t = of_pushed t (pushed i o s slots)

-- one of a spread of third shifts for the pair of the i-th and the o-th
abbrev pub third_of : ℕ → ℕ → ℕ → Shift
third_of i o k = nth_valid ((37 * i + 101 * o + 53 * k + 11) % 384)

unfoldable pub push_pair : ℕ → ℕ → Tally → Tally
push_pair i o t = over (λ k t. over (push_at (nth_valid i) (nth_valid o) (third_of i o k)) 4 t) 6 t

unfoldable pub push_row : ℕ → Tally → Tally
push_row i t = over (push_pair i) 384 t

unfoldable pub push_all : Tally
push_all = over push_row 384 none

abbrev of_shifted : ℕ → Result ℕ Refusal → ℕ
of_shifted h (Ok v) = mixed h v
of_shifted h (Err _) = h

abbrev pub apply_at : ℕ → ℕ → Shift → ℕ
apply_at h w s = of_shifted h (applied s w)

unfoldable pub apply_word : ℕ → ℕ → ℕ
apply_word w h = over (λ k h. apply_at h w (nth_valid k)) 384 h

-- words at which a sign or a half begins and ends
abbrev pub edges : List ℕ
edges =
    0 ∷ 1 ∷ 0x7fff_ffff_ffff_ffff ∷ 0x8000_0000_0000_0000 ∷ 0xffff_ffff_ffff_ffff ∷ 0x7fff_ffff ∷ 0x8000_0000 ∷ 0xffff_ffff_0000_0000 ∷ []

unfoldable pub apply_edges : ℕ
apply_edges = over (λ k h. apply_word (slice_index edges k) h) 8 0

unfoldable pub apply_next : Words → Words
apply_next s = record { word = churned s.word; digest = apply_word (churned s.word) s.digest }

unfoldable pub apply_all : ℕ
apply_all = (over (λ k s. apply_next s) 292 (record { word = 0x0123_4567_89ab_cdef; digest = apply_edges })).digest
