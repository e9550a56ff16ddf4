use Rattle.std.proofs.Common.{◌≡◌, ◌-◌, ◌≤◌}
use Rattle.replay_house.specs.Replay.{cut_from}
use Rattle.replay_house.proofs.limits.cut_field.Given as goal

abbrev pub invariant-loop : goal.invariant-loop
invariant-loop l = (cut_from l.file l.end l.end 0 ≡ cut_from l.file l.end (l.end - l.counter) l.at) × (l.at ≤ l.end)
