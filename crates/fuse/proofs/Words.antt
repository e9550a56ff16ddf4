-- What an answer speaks of is there. Assumes nothing.
use Prim.Native.Nat.{ℕ}
use mathlib.Core.List.{List}
use lib.ListN.{length}
use Rattle.std.specs.Prelude.{Result, Ok, Err}
use Rattle.report.specs.declared.FusedFile.{FusedFile}
use Rattle.report.specs.declared.outcome.Fault.{Fault}
use Rattle.report.specs.File.{FusesFile}
use Rattle.report.proofs.Theorem.{file_patched}
use Rattle.fuse.specs.Printed.{Covers}

pub covers : {slots : ℕ} {bytes out flags out' flags' : List ℕ} (r : Result FusedFile Fault) → FusesFile slots bytes out flags r out' flags' → Covers r (length out') (length flags')
covers {slots} {bytes} {out} {flags} {out'} {flags'} (Ok f) h = let p = file_patched slots bytes out flags f.length f.wires out' flags' h in (p.out_there, p.flags_there)
covers (Err fault) h = tt
