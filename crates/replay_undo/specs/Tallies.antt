-- What is counted of all systems.
--
--   system_counted t         one more system that was fused
--   words_counted t c n      c of n words returned; values_counted, so of operand values; definitions_counted, of definitions that hold
--   answer_counted t b       one more answer, right where b says so
--
-- Assumes nothing.
use Rattle.std.specs.Prelude.{ℕ, Bool, cond, ◌+◌, ◌-◌, ◌%◌, ◌^◌}
use Rattle.replay_undo.specs.declared.tally.Tally.{Tally}

abbrev pub nothing_counted : Tally
nothing_counted =
    record { systems = 0; returned = 0; lost = 0; equal = 0; unequal = 0; hold = 0; broken = 0; right = 0; wrong = 0; digest = 0 }

abbrev pub sum_of : ℕ → ℕ → ℕ
sum_of n m = (n + m) % 2 ^ 64

abbrev pub system_counted : Tally → Tally
system_counted t =
    record {
      systems = sum_of t.systems 1;
      returned = t.returned;
      lost = t.lost;
      equal = t.equal;
      unequal = t.unequal;
      hold = t.hold;
      broken = t.broken;
      right = t.right;
      wrong = t.wrong;
      digest = t.digest;
    }

abbrev pub words_counted : Tally → ℕ → ℕ → Tally
words_counted t same n =
    record {
      systems = t.systems;
      returned = sum_of t.returned same;
      lost = sum_of t.lost (n - same);
      equal = t.equal;
      unequal = t.unequal;
      hold = t.hold;
      broken = t.broken;
      right = t.right;
      wrong = t.wrong;
      digest = t.digest;
    }

abbrev pub values_counted : Tally → ℕ → ℕ → Tally
values_counted t same n =
    record {
      systems = t.systems;
      returned = t.returned;
      lost = t.lost;
      equal = sum_of t.equal same;
      unequal = sum_of t.unequal (n - same);
      hold = t.hold;
      broken = t.broken;
      right = t.right;
      wrong = t.wrong;
      digest = t.digest;
    }

abbrev pub definitions_counted : Tally → ℕ → ℕ → ℕ → Tally
definitions_counted t same n digest =
    record {
      systems = t.systems;
      returned = t.returned;
      lost = t.lost;
      equal = t.equal;
      unequal = t.unequal;
      hold = sum_of t.hold same;
      broken = sum_of t.broken (n - same);
      right = t.right;
      wrong = t.wrong;
      digest = digest;
    }

abbrev pub answer_counted : Tally → Bool → Tally
answer_counted t is_right =
    record {
      systems = t.systems;
      returned = t.returned;
      lost = t.lost;
      equal = t.equal;
      unequal = t.unequal;
      hold = t.hold;
      broken = t.broken;
      right = sum_of t.right (cond is_right 1 0);
      wrong = sum_of t.wrong (cond is_right 0 1);
      digest = t.digest;
    }
