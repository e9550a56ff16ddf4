use Rattle.std.proofs.Common.{◌≡◌, ◌-◌, length}
use Rattle.replay_house.specs.Replay.{number_at, state_of, vectors_of}
use Rattle.replay_house.proofs.vectors.Given as goal

abbrev pub invariant-loop : goal.invariant-loop
invariant-loop l = (vectors_of l.input (number_at l.input 0) 4 (state_of l.initial.one l.initial.two (record { right = 0; wrong = 0; digest = 0 })) ≡ vectors_of l.input (number_at l.input 0 - l.counter) l.at (state_of l.one l.two l.t)) × ((length l.one ≡ length l.initial.one) × (length l.two ≡ length l.initial.two))
