-- What is printed of an answer.
--
--   Covers r out flags   so many bytes and flags are there as the answer r speaks of
--
-- Assumes nothing.
use Rattle.std.specs.Prelude.{ℕ, ◌≤◌, Result, Ok, Err}
use Rattle.report.specs.declared.FusedFile.{FusedFile}
use Rattle.report.specs.declared.outcome.Fault.{Fault}

abbrev pub Covers : Result FusedFile Fault → ℕ → ℕ → Type 0
Covers (Ok f) out flags = (f.length ≤ out) × (f.wires ≤ flags)
Covers (Err _) out flags = Unit {0}
