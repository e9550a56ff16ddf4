-- What is counted of all vectors.
--
--   vector_counted t s   one more vector, right or wrong, with its counts and the digest
--
-- Assumes nothing.
use Rattle.std.specs.Prelude.{ℕ, ◌+◌, ◌%◌, ◌^◌, Bool, cond, not}
use Rattle.replay_records.specs.declared.judge.Seen.{Seen}
use Rattle.replay_records.specs.declared.tally.Tally.{Tally}

abbrev pub nothing_counted : Tally
nothing_counted =
    record { right = 0; wrong = 0; gone = 0; stranded = 0; committed = 0; written = 0; holding = 0; digest = 0 }

abbrev pub plus_if : ℕ → Bool → ℕ
plus_if n so = cond so ((n + 1) % 2 ^ 64) n

abbrev pub vector_counted : Tally → Seen → Tally
vector_counted t seen =
    record {
      right = plus_if t.right seen.right;
      wrong = plus_if t.wrong (not seen.right);
      gone = (t.gone + seen.gone) % 2 ^ 64;
      stranded = (t.stranded + seen.stranded) % 2 ^ 64;
      committed = (t.committed + seen.committed) % 2 ^ 64;
      written = (t.written + seen.written) % 2 ^ 64;
      holding = (t.holding + seen.holding) % 2 ^ 64;
      digest = seen.digest;
    }
