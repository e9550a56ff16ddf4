-- What a system that was fused is known to be. Assumes nothing.
use mathlib.Core.Path.{◌≡◌, refl, sym, ◌∙◌}
use Prim.Native.Nat.{ℕ, ◌+◌, ◌≤◌}
use native.Mathlib.Omega.{arith}
use mathlib.Core.List.{List}
use lib.ListN.{length}
use Rattle.std.specs.Prelude.{Result, Ok}
use Rattle.word.specs.Answers.{Told}
use Rattle.lower.specs.declared.Sizes.{Sizes}
use Rattle.lower.specs.Accepted.{NoCircle}
use Rattle.lower.specs.Stores.{system_of}
use Rattle.lower.proofs.Laws.{linears_length}
use Rattle.lower.proofs.Checks.{checked, memory_places}
use Rattle.commit_set.specs.declared.Decision.{Decision}
use Rattle.commit_set.specs.Answer.{decision_fault}
use Rattle.commit_set.proofs.Answers.{memory_none}
use Rattle.commit_set.proofs.Theorem.{decided_accepted}
use Rattle.patch.specs.Patch.{commit_set}
use Rattle.fusion.specs.declared.Counts.{Counts}
use Rattle.fusion.specs.Left.{Lent, input, fused, counts_of}
use Rattle.fusion.specs.Answer.{told_fused, Patches, Fuses, refused, circular, short, patches}
use Rattle.fusion.proofs.System.{room}
use Rattle.fusion.proofs.Once.{fused_counts}
use Rattle.report.specs.declared.outcome.FusedSystem.{FusedSystem}
use Rattle.report.specs.declared.outcome.Fault.{Fault}
use Rattle.report.specs.Outcome as C
use Rattle.report.specs.Outcome.{Comes}
use Rattle.report.specs.Steps.{Tallied}

-- ---- a system that was fused

pub record FusedDone (slots : ℕ) (z : Sizes) (l l' : Lent) (k : Counts) : Type 0 where
  pub st : ℕ → Decision
  pub no_fault : decision_fault slots z (input l) ≡ 0
  pub no_circle : NoCircle (fused z l)
  pub patched : Patches slots z l l' st
  pub counts : k ≡ counts_of (fused z l) (commit_set (fused z l) st)

pub told_once : (k n : Counts) → told_fused (Ok k) ≡ told_fused (Ok n) → k ≡ n
unfolding told_fused
told_once k n e = same k.gone k.stranded k.committed k.written k.kept n.gone n.stranded n.committed n.written n.kept (cc) (cc) (cc) (cc) (cc)
  where
    same : (a b c d e f g h i j : ℕ) → a ≡ f → b ≡ g → c ≡ h → d ≡ i → e ≡ j
        → ◌≡◌ {A = Counts} (record { gone = a; stranded = b; committed = c; written = d; kept = e }) (record { gone = f; stranded = g; committed = h; written = i; kept = j })
    same a b c d e f g h i j p q r s t = rw (p, q, r, s, t)

module _ (slots : ℕ) (z : Sizes) (l l' : Lent) (k : Counts) where
  from_told : (t : Told) → Fuses slots z l l' t → t ≡ told_fused (Ok k) → FusedDone slots z l l' k
  unfolding told_fused
  from_told t (refused e h q) p = absurd (let x : ◌≡◌ {A = ℕ} 0 1 = cc in omega arith)
  from_told t (circular f w c q) p = absurd (let x : ◌≡◌ {A = ℕ} 0 1 = cc in omega arith)
  from_told t (short f n st s h q) p = absurd (let x : ◌≡◌ {A = ℕ} 0 1 = cc in omega arith)
  from_told t (patches f n st y) p = record { st = st; no_fault = f; no_circle = n; patched = y; counts = told_once k _ (sym p) }

  pub fused_done : Fuses slots z l l' (told_fused (Ok k)) → FusedDone slots z l l' k
  fused_done h = from_told (told_fused (Ok k)) h refl

  -- "Definitions before = gone + stranded + committed"
  pub done_counts : FusedDone slots z l l' k → z.linears ≡ k.gone + k.stranded + k.committed
  done_counts d =
      let y = checked z (input l) (memory_places 8192 z (input l) (memory_none slots z (input l) d.no_fault)) in
      rw d.counts
      (sym (linears_length z (input l) y.dsts_in y.rhss_in)
      ∙ fused_counts z l (commit_set (fused z l) d.st) (decided_accepted slots z (input l) d.no_fault d.no_circle))

  pub done_wires : FusedDone slots z l l' k → z.wires ≤ length l.flags
  unfolding system_of
  done_wires d = (room (fused z l) (commit_set (fused z l) d.st) l d.patched.fits).flags_long

pub comes_tallied : {slots : ℕ} {bytes : List ℕ} {l l' : Lent} {o : Result FusedSystem Fault} → Comes slots bytes l o l' → length l.flags ≡ 4096 → Tallied o
comes_tallied (C.unread a) h = tt
comes_tallied (C.unfused a f) h = tt
comes_tallied {slots} (C.fused {x} {k} {m} {l'} a f) h =
    let d = fused_done slots x.sizes m l' k f in
    (omega (arith, done_counts slots x.sizes m l' k d), rw (a.flags_same, h) at (done_wires slots x.sizes m l' k d))
