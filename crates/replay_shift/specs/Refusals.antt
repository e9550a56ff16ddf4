-- Every shift that can be spelled, in each place where a call takes one: answered or refused with 4. Assumes nothing.
use Rattle.std.specs.Prelude.{ℕ, ◌/◌, ◌%◌}
use Rattle.word.specs.Answers.{Told, refused, refused_at, given, told}
use Rattle.shift.specs.declared.Shift.{Shift}
use Rattle.shift.specs.Shifts.{by, identity, variant_at}
use Rattle.shift.specs.Answers.{applied, numbered, composed, told_number, told_composed}
use Rattle.operand.specs.Push.{pushed, told_pushed}
use Rattle.replay_shift.specs.declared.Tally.{Tally}
use Rattle.replay_shift.specs.Tallies.{over, counted, none}

-- the number of a refusal, 0 for an answer
abbrev pub refusal_of : Told → ℕ
refusal_of (refused n) = n
refusal_of (refused_at n at) = n
refusal_of (given vs) = 0

abbrev pub noted : Tally → ℕ → Tally
noted t n = counted t (n / 4)

abbrev pub noted_apply : Tally → Shift → Tally
noted_apply t s = noted t (refusal_of (told (applied s 1)))

abbrev pub noted_index : Tally → Shift → Tally
noted_index t s = noted t (refusal_of (told_number (numbered s)))

abbrev pub noted_compose : Tally → Shift → Shift → Tally
noted_compose t i o = noted t (refusal_of (told_composed (composed i o)))

abbrev pub noted_push : Tally → Shift → Shift → Shift → Tally
noted_push t i o s = noted t (refusal_of (told_pushed (pushed i o s 2)))

abbrev pub noted_twice : Tally → Shift → Tally
noted_twice t s = noted_compose (noted_compose (noted_index (noted_apply t s) s) s identity) identity s

unfoldable pub noted_shift : Shift → Tally → Tally
noted_shift s t = noted_push (noted_push (noted_push (noted_twice t s) s identity identity) identity s identity) identity identity s

unfoldable pub noted_number : ℕ → Tally → Tally
noted_number n t = noted_shift (by (variant_at (n / 256)) (n % 256)) t

unfoldable pub noted_all : Tally
noted_all = over noted_number 2048 none
