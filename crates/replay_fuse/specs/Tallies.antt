-- What is counted of all vectors.
--
--   vector_counted t s   one more vector, right or wrong, with its counts and the digest
--   check_counted t b    one more further check, right or wrong
--
-- Assumes nothing.
use Rattle.std.specs.Prelude.{ℕ, ◌+◌, ◌%◌, ◌^◌, Bool, cond, not}
use Rattle.replay_fuse.specs.declared.judge.Seen.{Seen}
use Rattle.replay_fuse.specs.declared.tally.Tally.{Tally}

abbrev pub nothing_counted : Tally
nothing_counted =
    record { right = 0; wrong = 0; gone = 0; stranded = 0; committed = 0; written = 0; digest = 0; passed = 0; failed = 0 }

abbrev pub plus_if : ℕ → Bool → ℕ
plus_if n so = cond so ((n + 1) % 2 ^ 64) n

abbrev pub vector_counted : Tally → Seen → Tally
vector_counted t seen =
    record {
      right = plus_if t.right seen.right;
      wrong = plus_if t.wrong (not seen.right);
      gone = (t.gone + seen.gone) % 2 ^ 64;
      stranded = (t.stranded + seen.stranded) % 2 ^ 64;
      committed = (t.committed + seen.committed) % 2 ^ 64;
      written = (t.written + seen.written) % 2 ^ 64;
      digest = seen.digest;
      passed = t.passed;
      failed = t.failed;
    }

abbrev pub check_counted : Tally → Bool → Tally
check_counted t right =
    record {
      right = t.right;
      wrong = t.wrong;
      gone = t.gone;
      stranded = t.stranded;
      committed = t.committed;
      written = t.written;
      digest = t.digest;
      passed = plus_if t.passed right;
      failed = plus_if t.failed (not right);
    }
