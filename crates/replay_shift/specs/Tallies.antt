-- Counts by case and a digest of answers. Assumes nothing.
--
--   over f n a     f 0, then f 1, .., then f (n - 1), each of what the one before left, the first of a
--   churned        a word with its bits stirred; mixed h x, the digest h with x stirred in
--   counted t k    one answer more of the case k, and its number in the digest
--   mixed_in t x    the value x of the answer in the digest; shift_in t s, the shift s by its number
use Rattle.std.specs.Prelude.{ℕ, zero, suc, ◌+◌, ◌%◌, ◌^◌, cond, ◌==◌, bit_xor, Result, Ok, Err}
use Rattle.word.specs.Word.{left, right}
use Rattle.refusal.specs.declared.Refusal.{Refusal}
use Rattle.shift.specs.declared.Shift.{Shift}
use Rattle.shift.specs.Answers.{numbered}
use Rattle.replay_shift.specs.declared.Tally.{Tally}

unfoldable pub over : {A : Type 0} → (ℕ → A → A) → ℕ → A → A
over f zero a = a
over f (suc n) a = f n (over f n a)

abbrev thirded : ℕ → ℕ
thirded c = bit_xor c (left 64 17 c)

abbrev seconded : ℕ → ℕ
seconded b = thirded (bit_xor b (right 7 b))

abbrev pub churned : ℕ → ℕ
churned w = seconded (bit_xor w (left 64 13 w))

abbrev pub mixed : ℕ → ℕ → ℕ
mixed h x = (churned (bit_xor h x) + 0x9e37_79b9_7f4a_7c15) % 2 ^ 64

abbrev pub more : ℕ → ℕ
more n = (n + 1) % 2 ^ 64

abbrev tally : ℕ → ℕ → ℕ → ℕ → Tally
tally a b c h = record { first = a; second = b; third = c; digest = h }

unfoldable pub counted : Tally → ℕ → Tally
counted t k =
    cond (k == 0) (tally (more t.first) t.second t.third (mixed t.digest k))
    (cond (k == 1) (tally t.first (more t.second) t.third (mixed t.digest k))
    (tally t.first t.second (more t.third) (mixed t.digest k)))

unfoldable pub mixed_in : Tally → ℕ → Tally
mixed_in t x = tally t.first t.second t.third (mixed t.digest x)

abbrev pub none : Tally
none = tally 0 0 0 0

abbrev number_in : Tally → Result ℕ Refusal → Tally
number_in t (Ok n) = mixed_in t n
number_in t (Err _) = t

abbrev pub shift_in : Tally → Shift → Tally
shift_in t s = number_in t (numbered s)
