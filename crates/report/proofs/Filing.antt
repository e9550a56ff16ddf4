-- What is written of a system, by what writing answered. Assumes nothing.
use mathlib.Core.Path.{◌≡◌, refl, sym, ap, ◌∙◌, subst}
use Prim.Native.Nat.{ℕ, zero, suc, ◌≤◌}
use native.Mathlib.Omega.{arith}
use mathlib.Core.List.{List, ◌++◌}
use lib.ListN.{length, take, drop}
use lib.Seq.{sets}
use Rattle.std.specs.Prelude.{Err}
use Rattle.std.proofs.Common.{length-take-le}
use Rattle.refusal.specs.declared.Refusal.{Refusal}
use Rattle.refusal.specs.Refusals.{number_of}
use Rattle.lower.specs.declared.Sizes.{Sizes}
use Rattle.lower.specs.Stores.{Stores, system_of}
use Rattle.lower.proofs.Refusals.{number_some}
use Rattle.house_file.specs.Format.{file_of}
use Rattle.house_write.specs.Write.{write_fault, bytes_by, WriteIs}
use Rattle.fusion.specs.Left.{Lent, output}
use Rattle.fusion.proofs.System.{sets_front}
use Rattle.report.specs.declared.outcome.Fault.TheVariants.{Refused}
use Rattle.report.specs.File.{WritesFile, unwritten}

-- "a refusal fills nothing"
pub stays_unwritten : {z : Sizes} {s : Stores} {out out' : List ℕ} {r : Refusal} → WriteIs z s out (Err r) out' → out' ≡ out
unfolding bytes_by
stays_unwritten {z} {s} {out} {out'} {r} w = w.bytes_are ∙ go (write_fault z s (length out)) w.answer
  where
    go : (f : ℕ) → number_of r ≡ f → sets out 0 (bytes_by f (file_of (system_of z s))) ≡ out
    go zero e = absurd (number_some r e)
    go (suc f) e = refl

pub was_unwritten : {z : Sizes} {l : Lent} {out out' flags : List ℕ} {r : Refusal} → z.wires ≤ length flags → WriteIs z (output l) out (Err r) out'
    → WritesFile z l out flags (Err (Refused r)) out' flags
was_unwritten {z} {l} {out} {out'} {flags} {r} h w =
    let u : out' ≡ out = stays_unwritten w in
    subst (λ (x : List ℕ). WritesFile z l out flags (Err (Refused r)) x flags) (sym u)
    (unwritten h (subst (λ (x : List ℕ). WriteIs z (output l) out (Err r) x) u w))

-- the front of a list written over
pub front_put : (n : ℕ) (made flags : List ℕ) → n ≤ length made → n ≤ length flags → take n made ++ drop n flags ≡ sets flags 0 (take n made)
front_put n made flags h k =
    let e : length (take n made) ≡ n = length-take-le n made h in
    sym (sets_front (take n made) flags (omega (arith, e, k)) ∙ ap (λ (i : ℕ). take n made ++ drop i flags) e)
